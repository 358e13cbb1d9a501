-- That events have steps, and which outcome each has: each is the contract of a function of `laws`.
use Rattle.std.specs.Prelude.{◌≡◌, ℕ, true, false, List, length, Some}
use Rattle.mcs_states.specs.declared.halt.Halt.TheVariants.{Spent}
use Rattle.mcs_node.specs.declared.event.Event.{Event}
use Rattle.mcs_node.specs.Rounds.{Round, NodeState}
use Rattle.mcs_node.specs.Configurations.{Configuration, HasNode, IsSound}
use Rattle.mcs_node.specs.Steps.{IsTotal, IsPossible, IsIgnored, Outcome, Skipped, Ignored, Taken, Step, Runs}
use Rattle.mcs_node.specs.Worked.{AreCalm}

-- ---- totals
-- nodes, one for each context, have a total
abbrev pub TotalsExist : Type 0
TotalsExist = (r : Round) (nodes : List NodeState) → length nodes ≡ length r.system.contexts → (total : ℕ) × IsTotal r nodes total

-- and no second one
abbrev pub TotalsAreOne : Type 0
TotalsAreOne = (r : Round) (nodes : List NodeState) (total other : ℕ) → IsTotal r nodes total → IsTotal r nodes other → total ≡ other

-- ---- outcomes
-- this is the outcome of the event: one that is not possible is skipped, a possible delivery that is not taken is
-- ignored, and all else takes place
abbrev pub IsOutcomeOf : Round → Configuration → Event → Outcome → Type 0
IsOutcomeOf r c e Skipped = ¬ IsPossible r c e
IsOutcomeOf r c e Ignored = IsIgnored c e
IsOutcomeOf r c e Taken = IsPossible r c e × (¬ IsIgnored c e)

-- each step has the outcome of its event
abbrev pub StepsHaveTheirOutcome : Type 0
StepsHaveTheirOutcome = (r : Round) (c d : Configuration) (e : Event) (o : Outcome) → Step r c e o d → IsOutcomeOf r c e o

-- no event has two outcomes
abbrev pub OutcomesExclude : Type 0
OutcomesExclude = (r : Round) (c : Configuration) (e : Event) (o p : Outcome) → IsOutcomeOf r c e o → IsOutcomeOf r c e p → o ≡ p

-- so two steps of one event from one configuration have the same outcome, whatever they leave
abbrev pub StepsHaveOneOutcome : Type 0
StepsHaveOneOutcome = (r : Round) (c d b : Configuration) (e : Event) (o p : Outcome) → Step r c e o d → Step r c e p b → o ≡ p

-- ---- existence
-- no node newly stops by itself but for the budget: no answer is missing, and memory does not run out
abbrev pub NothingFails : Configuration → Configuration → Type 0
NothingFails c d = (i : ℕ) (s t : NodeState) → HasNode c i s → HasNode d i t → s.by_itself ≡ false → t.by_itself ≡ true → (level : ℕ) × (total : ℕ) × (t.halt ≡ Some (Spent level total))

-- In a sound configuration each event has a step in which nothing fails. This is existence alone: it may have others,
-- in which memory runs out, an answer is missing, or letters are put out in another order.
abbrev pub EventsHaveSteps : Type 0
EventsHaveSteps = (r : Round) (c : Configuration) (e : Event) → IsSound r c → (o : Outcome) × (d : Configuration) × Step r c e o d × NothingFails c d

-- That step has the outcome of the event: it is skipped exactly where it is not possible, ignored exactly where it is
-- a delivery that is not taken, and taken exactly where it is neither.
abbrev pub OutcomesHaveSteps : Type 0
OutcomesHaveSteps = (r : Round) (c : Configuration) (e : Event) (o : Outcome) → IsSound r c → IsOutcomeOf r c e o → (d : Configuration) × Step r c e o d × NothingFails c d

-- So any events have a run from there, and one that leaves a calm configuration where the first is calm. This too is
-- existence alone: runs of the same events may differ in what they leave, and so in later outcomes.
abbrev pub EventsHaveRuns : Type 0
EventsHaveRuns = (r : Round) (c : Configuration) (es : List Event) → IsSound r c → (os : List Outcome) × (d : Configuration) × Runs r c es os d × (AreCalm c → AreCalm d)
