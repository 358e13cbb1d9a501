-- Rounds of questions over the nodes of all contexts: when a round can be played, and what is left of it.
use Rattle.std.specs.Prelude.{◌≡◌, ℕ, ◌+◌, ◌<◌, ◌≤◌, ◌++◌, false, List, [], map, take, drop, length, Option, Some, None, Result, Ok, Err, slice_get, slice_set}
use Rattle.mcs_base.specs.Listings.{IsAmong, AreApart, IsListing}
use Rattle.mcs_system.specs.Plain.{System}
use Rattle.mcs_system.specs.Levels.{IsQuestionAt, HasQuestions}
use Rattle.mcs_states.specs.Oracles.{OracleState, Lacks, with_journal}
use Rattle.mcs_states.specs.declared.halt.Halt.{Halt}
use Rattle.mcs_states.specs.declared.halt.Halt.TheVariants.{Spent, Missing, Memory}
use Rattle.mcs_node.specs.Rounds.{Supplies, Finishes}
use Rattle.mcs_node.specs.Configurations.{new_node}
use Rattle.mcs_node.specs.Steps.{WereAsked}
use Rattle.mcs_node.specs.Letters.{LetterData, is_stop}
use Rattle.mcs_node.specs.Known.{HasAsked, IsKnownAt, Knowledge}
use Rattle.mcs_node.specs.Nodes.{NodeData, HasTaken, IsAbove, IsAwaited, IsGranted, IsGrantHalt, IsNeed, HasFinished, begun_at, done_level, nothing_known, round_at, with_had}

-- ---- the nodes of all contexts
-- it is the node of context i of the system, within the budget
pub record IsNodeOf (m : System) (budget i : ℕ) (d : NodeData) : Type 0 where
  pub plan : d.plan ≡ m
  pub context : d.context ≡ i
  pub budget_is : d.budget ≡ budget
  pub receivers : IsListing (Supplies m i) (λ a b. a < b) d.receivers

-- for each context, in order, its node
pub record AreNodesOf (m : System) (budget : ℕ) (nodes : List NodeData) : Type 0 where
  pub one_each : length nodes ≡ length m.contexts
  pub each : (i : ℕ) (d : NodeData) → slice_get nodes i ≡ Some d → IsNodeOf m budget i d

-- the node as it was when it was new, with an oracle of which nothing was asked: no round changes this of a node
abbrev pub as_new : NodeData → NodeData
as_new d = record { plan = d.plan; context = d.context; budget = d.budget; oracle = with_journal [] d.oracle; before = None; level = None; state = new_node; receivers = d.receivers; outbox = []; known = nothing_known }

-- for each node what its oracle stands for
abbrev pub oracles_of : List NodeData → List OracleState
oracles_of nodes = map (λ (d : NodeData). d.oracle) nodes

-- for each node what is known of its context
abbrev pub known_to : List NodeData → List Knowledge
known_to nodes = map (λ (d : NodeData). d.known) nodes

-- ---- what was asked
-- the node of context i has done this level, or none, and can begin the round of a higher one
pub record HasReached (m : System) (done : Option ℕ) (i : ℕ) (d : NodeData) : Type 0 where
  pub level : d.level ≡ done
  pub reached : done_level d ≡ done
  pub going : d.state.halt ≡ None
  pub known : IsKnownAt m done i d.known
  pub asked : HasAsked m i d.oracle d.known.answers

-- each node has, and the questions of this level are so many, which is within the budget; none were asked where no level was done
pub record HaveReached (m : System) (budget : ℕ) (done : Option ℕ) (asked : ℕ) (nodes : List NodeData) : Type 0 where
  pub each : (i : ℕ) (d : NodeData) → slice_get nodes i ≡ Some d → HasReached m done i d
  pub count : WereAsked m done asked
  pub within : asked ≤ budget

-- ---- a round
-- the round of the level can be played: each context has a node, and all have done the same level, or none, which is lower; so many questions were asked
pub record IsReadyRound (m : System) (level budget asked : ℕ) (nodes : List NodeData) : Type 0 where
  pub own : AreNodesOf m budget nodes
  pub before : Option ℕ
  pub above : IsAbove before level
  pub reached : HaveReached m budget before asked nodes

-- each node has finished the round of the level
abbrev pub HaveFinished : ℕ → List NodeData → Type 0
HaveFinished level nodes = (i : ℕ) (d : NodeData) → slice_get nodes i ≡ Some d → Finishes (round_at d level) i d.state

-- why a round of the level stopped: the level has more questions than the budget, the oracle of a context lacks one of them, or memory ran out
abbrev pub HasRoundCause : System → ℕ → ℕ → List OracleState → Halt → Type 0
HasRoundCause m level budget oracles (Spent at drawn) = (at ≡ level) × (budget < drawn) × HasQuestions m level drawn
HasRoundCause m level budget oracles (Missing i x) = (o : OracleState) × (slice_get oracles i ≡ Some o) × Lacks o x × IsQuestionAt m level i x
HasRoundCause m level budget oracles Memory = Unit {0}

-- how a round of the level ends: each node has finished it, and the level has this total of questions, or the round stopped for a cause
abbrev pub RoundEnds : System → ℕ → ℕ → List NodeData → List NodeData → Result ℕ Halt → Type 0
RoundEnds m level budget before after (Ok total) = HaveReached m budget (Some level) total after × HaveFinished level after
RoundEnds m level budget before after (Err halt) = HasRoundCause m level budget (oracles_of before) halt

-- the round of the level was played: the nodes are all there, and as they were but for what a round changes
pub record IsPlayed (m : System) (level budget : ℕ) (before after : List NodeData) (total : Result ℕ Halt) : Type 0 where
  pub same : map as_new after ≡ map as_new before
  pub ends : RoundEnds m level budget before after total

-- ---- one context after the other
-- the node can begin the round of the level
pub record CanBegin (level : ℕ) (d : NodeData) : Type 0 where
  pub going : d.state.halt ≡ None
  pub above : IsAbove d.level level

-- the first so many of the nodes have begun the round of the level, and the others are as they were
abbrev pub HaveBegunSome : ℕ → List NodeData → List NodeData → Type 0
HaveBegunSome level before after = (k : ℕ) × (after ≡ map (begun_at level) (take k before) ++ drop k before)

-- it was granted its need on top of the questions asked, and has finished the round
pub record FinishesOn (asked total : ℕ) (d e : NodeData) : Type 0 where
  pub need : ℕ
  pub is_need : IsNeed d need
  pub adds : total ≡ asked + need
  pub level : ℕ
  pub level_is : d.level ≡ Some level
  pub finished : HasFinished total level d e

-- it stopped as it was granted this
abbrev pub HasGrantCause : ℕ → NodeData → Halt → Type 0
HasGrantCause asked d (Spent level total) = (d.level ≡ Some level) × (d.budget < total) × (need : ℕ) × IsNeed d need × (total ≡ asked + need)
HasGrantCause asked d (Missing context x) = (level : ℕ) × (d.level ≡ Some level) × IsGrantHalt d level (Missing context x)
HasGrantCause asked d Memory = Unit {0}

-- it was granted a total, and has stopped
pub record HasStoppedOn (d e : NodeData) : Type 0 where
  pub total : ℕ
  pub granted : IsGranted total d e
  pub halt : Halt
  pub told : e.state.halt ≡ Some halt

-- ---- letters
abbrev pub addressees : List LetterData → List ℕ
addressees letters = map (λ (l : LetterData). l.to) letters

-- the letter is a supply, and the node that it is to is among these and waits for it
pub record IsExpected (l : LetterData) (nodes : List NodeData) : Type 0 where
  pub node : NodeData
  pub is_its : slice_get nodes l.to ≡ Some node
  pub awaited : IsAwaited l node
  pub going : node.state.halt ≡ None
  pub supply : is_stop l.content ≡ false

-- the node that it is to has had it, and nothing else changed
pub record IsDelivered (l : LetterData) (before after : List NodeData) : Type 0 where
  pub node : NodeData
  pub is_its : slice_get before l.to ≡ Some node
  pub after_is : after ≡ slice_set before l.to (with_had l node)

-- the node that it is to has taken it, and may have stopped; nothing else changed
pub record IsTakenIn (l : LetterData) (before after : List NodeData) : Type 0 where
  pub node : NodeData
  pub is_its : slice_get before l.to ≡ Some node
  pub now : NodeData
  pub taken : HasTaken l node now
  pub after_is : after ≡ slice_set before l.to now

-- the node of context i has letters to hand out, one to each of some other nodes, which wait for them
pub record AreExpected (i : ℕ) (nodes : List NodeData) : Type 0 where
  pub sender : NodeData
  pub is_its : slice_get nodes i ≡ Some sender
  pub apart : AreApart (addressees sender.outbox)
  pub others : ¬ IsAmong i (addressees sender.outbox)
  pub each : (l : LetterData) → IsAmong l sender.outbox → IsExpected l nodes

-- what becomes of the node of context j, once that of context i has handed out these letters
pub data IsAfterDelivery (i : ℕ) (letters : List LetterData) (j : ℕ) (d e : NodeData) : Type 0 where
  sends : j ≡ i → e ≡ record d { outbox = [] } → IsAfterDelivery i letters j d e
  has_had : (l : LetterData) → ¬ (j ≡ i) → IsAmong l letters → l.to ≡ j → e ≡ with_had l d → IsAfterDelivery i letters j d e
  stays : ¬ (j ≡ i) → ¬ IsAmong j (addressees letters) → e ≡ d → IsAfterDelivery i letters j d e

-- the letters of the node of context i were delivered
pub record AreDelivered (i : ℕ) (before after : List NodeData) : Type 0 where
  pub sender : NodeData
  pub is_its : slice_get before i ≡ Some sender
  pub one_each : length after ≡ length before
  pub each : (j : ℕ) (d e : NodeData) → slice_get before j ≡ Some d → slice_get after j ≡ Some e → IsAfterDelivery i sender.outbox j d e

-- what has become of the node of context j, while that of context i hands out these letters; one that takes a letter may stop
pub data IsAmidDelivery (i : ℕ) (letters : List LetterData) (j : ℕ) (d e : NodeData) : Type 0 where
  is_sending : j ≡ i → e ≡ record d { outbox = e.outbox } → IsAmidDelivery i letters j d e
  has_taken : (l : LetterData) → ¬ (j ≡ i) → IsAmong l letters → l.to ≡ j → HasTaken l d e → IsAmidDelivery i letters j d e
  waits_on : ¬ (j ≡ i) → e ≡ d → IsAmidDelivery i letters j d e

-- some of the letters of the node of context i were delivered
pub record AreSomeDelivered (i : ℕ) (before after : List NodeData) : Type 0 where
  pub sender : NodeData
  pub is_its : slice_get before i ≡ Some sender
  pub one_each : length after ≡ length before
  pub each : (j : ℕ) (d e : NodeData) → slice_get before j ≡ Some d → slice_get after j ≡ Some e → IsAmidDelivery i sender.outbox j d e
