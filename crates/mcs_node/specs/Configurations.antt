-- Configurations of a round: all nodes, and the letters that they have put out; which are sound, and which are quiet.
use Rattle.std.specs.Prelude.{◌≡◌, ℕ, true, false, List, [], length, map, Some, None, slice_get}
use Rattle.mcs_base.specs.Listings.{IsAmong, AreApart, IsInventory}
use Rattle.mcs_system.specs.Plain.{Context, System}
use Rattle.mcs_states.specs.declared.halt.Halt.{Halt}
use Rattle.mcs_node.specs.Rounds.{Supplies, Stamp, stamp, Round, NodeState, ObeysRule}

pub record Configuration : Type 0 where
  -- for each context, in order, what is said of its node
  pub nodes : List NodeState
  -- the stamps put out, in order
  pub letters : List Stamp

-- s is said of the node of context i
abbrev pub HasNode : Configuration → ℕ → NodeState → Type 0
HasNode c i s = slice_get c.nodes i ≡ Some s

-- ---- the first configuration
-- a node that has not begun: nothing has happened to it
abbrev pub new_node : NodeState
new_node = record { begun = false; had = []; granted = None; put_out = []; done = false; halt = None; by_itself = false }

-- no node has begun
abbrev pub first_configuration : System → Configuration
first_configuration m = record { nodes = map (λ (context : Context). new_node) m.contexts; letters = [] }

-- ---- sound configurations
-- some node has put out x
abbrev pub IsPutOut : Configuration → Stamp → Type 0
IsPutOut c x = (i : ℕ) × (s : NodeState) × HasNode c i s × IsAmong x s.put_out

-- the node that x comes from has put it out
abbrev pub IsFromSender : Configuration → Stamp → Type 0
IsFromSender c x = (s : NodeState) × HasNode c x.from s × IsAmong x s.put_out

-- the halt is that of the sender of a stop among these
abbrev pub IsHaltOfSender : Configuration → List Stamp → Halt → Type 0
IsHaltOfSender c had halt = (x : Stamp) × (s : NodeState) × IsAmong x had × (x.stop ≡ true) × HasNode c x.from s × (s.halt ≡ Some halt)

-- the node of context i has had each stamp once, from its sender, and obeys the rule; its halt is its own or that of a sender
pub record IsSoundNode (r : Round) (c : Configuration) (i : ℕ) (s : NodeState) : Type 0 where
  pub addressed : (x : Stamp) → IsAmong x s.had → x.to ≡ i
  pub sent : (x : Stamp) → IsAmong x s.had → IsFromSender c x
  pub once : AreApart s.had
  pub rule : ObeysRule r i s
  pub unbegun : s.begun ≡ false → s ≡ new_node
  pub halted : (halt : Halt) → s.halt ≡ Some halt → s.by_itself ≡ false → IsHaltOfSender c s.had halt

-- each context has a node, which is sound, and the letters are what the nodes have put out, each once
pub record IsSound (r : Round) (c : Configuration) : Type 0 where
  pub one_each : length c.nodes ≡ length r.system.contexts
  pub letters : IsInventory (IsPutOut c) c.letters
  pub nodes : (i : ℕ) (s : NodeState) → HasNode c i s → IsSoundNode r c i s

-- ---- quiet configurations
-- the node of context i waits for its grant: it has begun and has had every supply, has no halt and was granted nothing
pub record AwaitsGrant (r : Round) (i : ℕ) (s : NodeState) : Type 0 where
  pub begun : s.begun ≡ true
  pub had : (j : ℕ) → Supplies r.system j i → IsAmong (stamp r.level j i false) s.had
  pub halt : s.halt ≡ None
  pub granted : s.granted ≡ None

-- the node that x is addressed to has had it
abbrev pub WasHad : Configuration → Stamp → Type 0
WasHad c x = (s : NodeState) × HasNode c x.to s × IsAmong x s.had

-- every node has begun, none waits for its grant, and each stamp put out was had by its addressee
pub record IsQuiet (r : Round) (c : Configuration) : Type 0 where
  pub begun : (i : ℕ) (s : NodeState) → HasNode c i s → s.begun ≡ true
  pub granted : (i : ℕ) (s : NodeState) → HasNode c i s → ¬ AwaitsGrant r i s
  pub had : (x : Stamp) → IsAmong x c.letters → WasHad c x

-- ---- how a round ends
-- every node is done
abbrev pub IsDone : Configuration → Type 0
IsDone c = (i : ℕ) (s : NodeState) → HasNode c i s → s.done ≡ true

-- some node has a halt
abbrev pub HasHalt : Configuration → Type 0
HasHalt c = (i : ℕ) × (s : NodeState) × (halt : Halt) × HasNode c i s × (s.halt ≡ Some halt)

-- some node has stopped by itself, with this halt
abbrev pub HasStopped : Configuration → Halt → Type 0
HasStopped c halt = (i : ℕ) × (s : NodeState) × HasNode c i s × (s.halt ≡ Some halt) × (s.by_itself ≡ true)
