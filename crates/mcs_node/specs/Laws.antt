-- Laws of rounds: each is the contract of a function of `laws`.
use Rattle.std.specs.Prelude.{◌≡◌, ◌↔◌, ℕ, ◌<◌, ◌≤◌, true, List, length, Some, slice_get, is_some, ◌⊎◌}
use Rattle.std.specs.List.{flat_map}
use Rattle.mcs_base.specs.Listings.{IsAmong}
use Rattle.mcs_system.specs.Levels.{IsQuestionAt, HasQuestions, IsCount}
use Rattle.mcs_states.specs.declared.halt.Halt.{Halt}
use Rattle.mcs_states.specs.declared.halt.Halt.TheVariants.{Spent, Missing, Memory}
use Rattle.mcs_node.specs.declared.event.Event.{Event}
use Rattle.mcs_node.specs.Rounds.{Stamp, Round, NodeState, Finishes}
use Rattle.mcs_node.specs.Configurations.{Configuration, HasNode, first_configuration, IsSound, IsQuiet, IsDone, HasHalt, HasStopped}
use Rattle.mcs_node.specs.Steps.{IsTotal, Outcome, Step, Runs}

-- the configuration in which no node has begun is sound
abbrev pub FirstIsSound : Type 0
FirstIsSound = (r : Round) → IsSound r (first_configuration r.system)

-- a step makes a sound configuration of a sound one
abbrev pub StepsKeepSoundness : Type 0
StepsKeepSoundness = (r : Round) (c d : Configuration) (e : Event) (o : Outcome) → IsSound r c → Step r c e o d → IsSound r d

-- what any events make of the first configuration is sound
abbrev pub RunsAreSound : Type 0
RunsAreSound = (r : Round) (es : List Event) (os : List Outcome) (d : Configuration) → Runs r (first_configuration r.system) es os d → IsSound r d

-- where nothing is left to happen every node is done, or one has a halt
abbrev pub QuietRoundsAreDone : Type 0
QuietRoundsAreDone = (r : Round) (c : Configuration) → IsSound r c → IsQuiet r c → IsDone c ⊎ HasHalt c

-- where a node has a halt, one has stopped by itself with this halt
abbrev pub HaltsHaveASource : Type 0
HaltsHaveASource = (r : Round) (c : Configuration) (i : ℕ) (s : NodeState) (halt : Halt) → IsSound r c → HasNode c i s → s.halt ≡ Some halt → HasStopped c halt

-- the configuration of nodes whose letters are listed node by node
abbrev pub listed_by_node : List NodeState → Configuration
listed_by_node nodes = record { nodes = nodes; letters = flat_map (λ (s : NodeState). s.put_out) nodes }

-- each context has a node, which has begun and has finished
pub record AreFinished (r : Round) (nodes : List NodeState) : Type 0 where
  pub one_each : length nodes ≡ length r.system.contexts
  pub begun : (i : ℕ) (s : NodeState) → slice_get nodes i ≡ Some s → s.begun ≡ true
  pub finish : (i : ℕ) (s : NodeState) → slice_get nodes i ≡ Some s → Finishes r i s

-- where all have, the letters listed node by node, the configuration is sound and quiet
abbrev pub DoneRoundsAreQuiet : Type 0
DoneRoundsAreQuiet = (r : Round) (nodes : List NodeState) → AreFinished r nodes → IsSound r (listed_by_node nodes) × IsQuiet r (listed_by_node nodes)

-- ---- that the order of events does not matter
-- the nodes are the same but for the order of what they have had and put out, and for the totals that were granted
pub record AreAlike (s t : NodeState) : Type 0 where
  pub begun : s.begun ≡ t.begun
  pub had : (x : Stamp) → IsAmong x s.had ↔ IsAmong x t.had
  pub granted : is_some s.granted ≡ is_some t.granted
  pub put_out : (x : Stamp) → IsAmong x s.put_out ↔ IsAmong x t.put_out
  pub done : s.done ≡ t.done
  pub halt : s.halt ≡ t.halt
  pub by_itself : s.by_itself ≡ t.by_itself

-- where every node is done in two sound configurations of a round, the nodes are alike, and the letters are the same
-- in some order. So it does not matter in which order nodes begin, are granted and have letters, but to the totals
-- granted, each of which counts the needs so far
abbrev pub DoneRoundsAreAlike : Type 0
DoneRoundsAreAlike = (r : Round) (c d : Configuration) → IsSound r c → IsSound r d → IsDone c → IsDone d
    → ((i : ℕ) (s t : NodeState) → HasNode c i s → HasNode d i t → AreAlike s t)
    × ((x : Stamp) → IsAmong x c.letters ↔ IsAmong x d.letters)
    × (length c.letters ≡ length d.letters)

-- ---- totals
-- no higher level was done before the round
abbrev pub IsOnward : Round → Type 0
IsOnward r = (done : ℕ) → r.before ≡ Some done → done ≤ r.level

-- the level has at least as many questions as a total says, and just so many where every node was granted one
abbrev pub TotalsCountQuestions : Type 0
TotalsCountQuestions = (r : Round) (nodes : List NodeState) (total : ℕ) → IsOnward r → length nodes ≡ length r.system.contexts → IsTotal r nodes total
    → HasQuestions r.system r.level total
    × (((i : ℕ) (s : NodeState) → slice_get nodes i ≡ Some s → is_some s.granted ≡ true) → IsCount r.system r.level total)

-- where every node is done, and there is one, the greatest total granted is the number of questions of the level
abbrev pub GreatestTotalIsTheCount : Type 0
GreatestTotalIsTheCount = (r : Round) (es : List Event) (os : List Outcome) (d : Configuration) → IsOnward r → Runs r (first_configuration r.system) es os d → IsDone d → 0 < length d.nodes
    → (total : ℕ) × IsCount r.system r.level total
    × ((i : ℕ) × (s : NodeState) × HasNode d i s × (s.granted ≡ Some total))
    × ((i : ℕ) (s : NodeState) (n : ℕ) → HasNode d i s → s.granted ≡ Some n → n ≤ total)

-- what a halt says is true of the round: the level has more questions than the budget, or this one
abbrev pub IsTrueHalt : Round → Halt → Type 0
IsTrueHalt r (Spent level total) = (level ≡ r.level) × (r.budget < total) × HasQuestions r.system r.level total
IsTrueHalt r (Missing context x) = IsQuestionAt r.system r.level context x
IsTrueHalt r Memory = Unit {0}

-- so is what each halt says that events leave in a configuration
abbrev pub HaltsAreTrue : Type 0
HaltsAreTrue = (r : Round) (es : List Event) (os : List Outcome) (d : Configuration) (i : ℕ) (s : NodeState) (halt : Halt) → IsOnward r
    → Runs r (first_configuration r.system) es os d → HasNode d i s → s.halt ≡ Some halt → IsTrueHalt r halt
