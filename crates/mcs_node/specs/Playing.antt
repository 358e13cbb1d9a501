-- Nodes that play a round, the configuration that they make, and what each call of a node is in it.
use Rattle.std.specs.Prelude.{◌≡◌, ℕ, ◌+◌, ◌<◌, true, List, [], ◌++◌, map, length, Some, None, slice_get, slice_set}
use Rattle.mcs_base.specs.Listings.{IsAmong, IsListing}
use Rattle.mcs_states.specs.declared.halt.Halt.{Halt}
use Rattle.mcs_node.specs.declared.event.Event.TheVariants.{Begin, Grant, Deliver}
use Rattle.mcs_node.specs.Rounds.{NodeState, Round, Supplies}
use Rattle.mcs_node.specs.Configurations.{Configuration, HasNode, IsSound, first_configuration, new_node}
use Rattle.mcs_node.specs.Letters.{LetterData, Stop, stamp_of}
use Rattle.mcs_node.specs.Nodes.{HasTaken, IsAbove, IsAwaited, IsGranted, IsNeed, IsNewNode, NodeData, WaitsForGrant, begun_at, done_level, round_at}
use Rattle.mcs_node.specs.Steps.{IsTotal, Step, Ignored, Skipped, Taken}
use Rattle.mcs_states.specs.Oracles.{OracleState}

-- ---- nodes and configurations
-- the node of context i has the state s in the round: nothing has happened to one that has not begun it
pub data HasState (r : Round) (i : ℕ) (d : NodeData) (s : NodeState) : Type 0 where
  has_begun : round_at d r.level ≡ r → d.level ≡ Some r.level → d.state.begun ≡ true → s ≡ d.state → HasState r i d s
  has_not : d.plan ≡ r.system → d.budget ≡ r.budget → done_level d ≡ r.before → IsAbove d.level r.level → d.state.halt ≡ None → s ≡ new_node → HasState r i d s

-- each context has a node, with its state in the round
pub record HaveStates (r : Round) (nodes : List NodeData) (states : List NodeState) : Type 0 where
  pub one_each : length nodes ≡ length r.system.contexts
  pub states_each : length states ≡ length nodes
  pub contexts : (i : ℕ) (d : NodeData) → slice_get nodes i ≡ Some d → d.context ≡ i
  pub receivers : (i : ℕ) (d : NodeData) → slice_get nodes i ≡ Some d → IsListing (Supplies r.system i) (λ a b. a < b) d.receivers
  pub each : (i : ℕ) (d : NodeData) (s : NodeState) → slice_get nodes i ≡ Some d → slice_get states i ≡ Some s → HasState r i d s

-- the letter was put out in the round, and a stop tells its sender's halt
pub record WasPutOut (r : Round) (c : Configuration) (l : LetterData) : Type 0 where
  pub plan : l.plan ≡ r.system
  pub level : l.level ≡ r.level
  pub fits : Supplies r.system l.from l.to
  pub halt : (halt : Halt) → l.content ≡ Stop halt → (s : NodeState) × HasNode c l.from s × (s.halt ≡ Some halt)

-- the nodes, and the letters that they have put out, in order, make the configuration. All letters were handed out, and the nodes were granted this total.
pub record IsInPlay (r : Round) (nodes : List NodeData) (letters : List LetterData) (total : ℕ) (c : Configuration) : Type 0 where
  pub states : HaveStates r nodes c.nodes
  pub stamps : c.letters ≡ map stamp_of letters
  pub put_out : (l : LetterData) → IsAmong l letters → WasPutOut r c l
  pub handed_out : (i : ℕ) (d : NodeData) → slice_get nodes i ≡ Some d → d.outbox ≡ []
  pub granted : IsTotal r c.nodes total
  pub sound : IsSound r c

-- ---- laws
-- new nodes, one for each context, make the first configuration
abbrev pub NewNodesAreFirst : Type 0
NewNodesAreFirst = (r : Round) (nodes : List NodeData) → r.before ≡ None → length nodes ≡ length r.system.contexts
    → ((i : ℕ) (d : NodeData) → slice_get nodes i ≡ Some d → (o : OracleState) × IsNewNode r.system i r.budget o d)
    → IsInPlay r nodes [] 0 (first_configuration r.system)

-- a node that begins the round: the event takes place
abbrev pub BeginsAreSteps : Type 0
BeginsAreSteps = (r : Round) (nodes : List NodeData) (letters : List LetterData) (total : ℕ) (c : Configuration) (i : ℕ) (d : NodeData)
    → IsInPlay r nodes letters total c → slice_get nodes i ≡ Some d → ¬ (d.level ≡ Some r.level)
    → (next : Configuration) × Step r c (Begin i) Taken next × IsInPlay r (slice_set nodes i (begun_at r.level d)) letters total next

-- a node that has begun the round, and a context that has no node, can't begin it
abbrev pub BegunIsSkipped : Type 0
BegunIsSkipped = (r : Round) (nodes : List NodeData) (letters : List LetterData) (total : ℕ) (c : Configuration) (i : ℕ)
    → IsInPlay r nodes letters total c → ((d : NodeData) → slice_get nodes i ≡ Some d → d.level ≡ Some r.level) → Step r c (Begin i) Skipped c

-- a node that is granted its need on top of the total: the event takes place, and what it put out is handed out
abbrev pub GrantsAreSteps : Type 0
GrantsAreSteps = (r : Round) (nodes : List NodeData) (letters : List LetterData) (total : ℕ) (c : Configuration) (i need : ℕ) (d e : NodeData)
    → IsInPlay r nodes letters total c → slice_get nodes i ≡ Some d → IsNeed d need → d.level ≡ Some r.level → IsGranted (total + need) d e
    → (next : Configuration) × Step r c (Grant i) Taken next × IsInPlay r (slice_set nodes i (record e { outbox = [] })) (letters ++ e.outbox) (total + need) next

-- a node that does not wait for its grant, and a context that has no node, can't be granted one
abbrev pub UngrantedIsSkipped : Type 0
UngrantedIsSkipped = (r : Round) (nodes : List NodeData) (letters : List LetterData) (total : ℕ) (c : Configuration) (i : ℕ)
    → IsInPlay r nodes letters total c → ((d : NodeData) → slice_get nodes i ≡ Some d → ¬ WaitsForGrant d) → Step r c (Grant i) Skipped c

-- a letter that its addressee takes: the delivery takes place, and what the node put out is handed out
abbrev pub LettersAreSteps : Type 0
LettersAreSteps = (r : Round) (nodes : List NodeData) (letters : List LetterData) (total : ℕ) (c : Configuration) (n : ℕ) (l : LetterData) (d e : NodeData)
    → IsInPlay r nodes letters total c → slice_get letters n ≡ Some l → slice_get nodes l.to ≡ Some d → IsAwaited l d → HasTaken l d e
    → (next : Configuration) × Step r c (Deliver n) Taken next × IsInPlay r (slice_set nodes l.to (record e { outbox = [] })) (letters ++ e.outbox) total next

-- a letter that its addressee does not take is ignored
abbrev pub StrangersAreIgnored : Type 0
StrangersAreIgnored = (r : Round) (nodes : List NodeData) (letters : List LetterData) (total : ℕ) (c : Configuration) (n : ℕ) (l : LetterData)
    → IsInPlay r nodes letters total c → slice_get letters n ≡ Some l → ((d : NodeData) → slice_get nodes l.to ≡ Some d → ¬ IsAwaited l d) → Step r c (Deliver n) Ignored c

-- a letter that was not put out can't be delivered
abbrev pub UnsentIsSkipped : Type 0
UnsentIsSkipped = (r : Round) (nodes : List NodeData) (letters : List LetterData) (total : ℕ) (c : Configuration) (n : ℕ)
    → IsInPlay r nodes letters total c → slice_get letters n ≡ None → Step r c (Deliver n) Skipped c
