-- Worked rounds of two contexts, of which the first supplies the second.
use Rattle.std.specs.Prelude.{◌≡◌, ℕ, ◌+◌, ◌<◌, ◌≤◌, Bool, true, false, List, [], ◌∷◌, length, Option, Some, None}
use Rattle.mcs_laws.specs.Examples.{one_reads_fact}
use Rattle.mcs_states.specs.declared.halt.Halt.{Halt}
use Rattle.mcs_states.specs.declared.halt.Halt.TheVariants.{Spent, Missing, Memory}
use Rattle.mcs_node.specs.declared.event.Event.{Event}
use Rattle.mcs_node.specs.declared.event.Event.TheVariants.{Begin, Grant, Deliver}
use Rattle.mcs_node.specs.Rounds.{Supplies, Stamp, stamp, Round, NodeState, IsNewQuestion}
use Rattle.mcs_node.specs.Configurations.{Configuration, HasNode, new_node, first_configuration, IsSound}
use Rattle.mcs_node.specs.Steps.{WereAsked, IsNeedOf, Outcome, Skipped, Ignored, Taken, Runs}

-- two contexts of which the first supplies the second, and nothing else supplies anything; so many questions were asked before, and their nodes need so many
pub record AreTwo (r : Round) (base first second : ℕ) : Type 0 where
  pub two : length r.system.contexts ≡ 2
  pub supplies : Supplies r.system 0 1
  pub alone : (j i : ℕ) → Supplies r.system j i → (j ≡ 0) × (i ≡ 1)
  pub asked : WereAsked r.system r.before base
  pub first_need : IsNeedOf r 0 first
  pub second_need : IsNeedOf r 1 second

-- the letter from the first to the second
abbrev pub letter : Round → Bool → Stamp
letter r stop = stamp r.level 0 1 stop

abbrev pub both : NodeState → NodeState → List Stamp → Configuration
both a b letters = record { nodes = a ∷ b ∷ []; letters = letters }

-- it has no halt, or one that tells of the budget
abbrev pub IsCalm : Option Halt → Type 0
IsCalm None = Unit {0}
IsCalm (Some (Spent level total)) = Unit {0}
IsCalm (Some (Missing context x)) = ⊥
IsCalm (Some Memory) = ⊥

-- no answer is missing, and memory has not run out
abbrev pub AreCalm : Configuration → Type 0
AreCalm c = (i : ℕ) (s : NodeState) → HasNode c i s → IsCalm s.halt

-- from c the events may have these outcomes and leave d, and so they do in each run in which no answer is missing and memory does not run out
pub record LeadTo (r : Round) (c : Configuration) (es : List Event) (os : List Outcome) (d : Configuration) : Type 0 where
  pub may : Runs r c es os d
  pub alone : (others : List Outcome) (other : Configuration) → Runs r c es others other → AreCalm other → (others ≡ os) × (other ≡ d)

-- ---- within the budget
abbrev pub begun_node : NodeState
begun_node = record new_node { begun = true }

-- it was granted the total, and is done
abbrev pub finished : List Stamp → ℕ → List Stamp → NodeState
finished had total put_out = record { begun = true; had = had; granted = Some total; put_out = put_out; done = true; halt = None; by_itself = false }

-- both begin, the first is granted its need and done, its supply comes twice and is ignored the second time, and the second is granted its need on top; the first is granted nothing again
abbrev pub TurnsAreTaken : Type 0
TurnsAreTaken = (r : Round) (base first second : ℕ) → AreTwo r base first second → base + first + second ≤ r.budget
    → LeadTo r (first_configuration r.system)
    (Begin 0 ∷ Begin 1 ∷ Grant 0 ∷ Deliver 0 ∷ Deliver 0 ∷ Grant 1 ∷ Grant 0 ∷ [])
    (Taken ∷ Taken ∷ Taken ∷ Taken ∷ Ignored ∷ Taken ∷ Skipped ∷ [])
    (both (finished [] (base + first) (letter r false ∷ [])) (finished (letter r false ∷ []) (base + first + second) []) (letter r false ∷ []))

-- no node is granted anything before it begins or lacks a supply, none begins twice, and there is no third; nothing was put out
abbrev pub ImpossibleIsSkipped : Type 0
ImpossibleIsSkipped = (r : Round) (base first second : ℕ) → AreTwo r base first second
    → LeadTo r (first_configuration r.system)
    (Grant 0 ∷ Begin 0 ∷ Begin 0 ∷ Begin 2 ∷ Deliver 0 ∷ Begin 1 ∷ Grant 1 ∷ Grant 2 ∷ [])
    (Skipped ∷ Taken ∷ Skipped ∷ Skipped ∷ Skipped ∷ Taken ∷ Skipped ∷ Skipped ∷ [])
    (both begun_node begun_node [])

-- ---- above the budget
-- it was granted the total, which is above the budget
abbrev pub overdrawn : Round → ℕ → List Stamp → NodeState
overdrawn r total put_out = record { begun = true; had = []; granted = Some total; put_out = put_out; done = false; halt = Some (Spent r.level total); by_itself = true }

-- a stop with this halt has come to it
abbrev pub stopped_by : List Stamp → Halt → NodeState
stopped_by had halt = record { begun = true; had = had; granted = None; put_out = []; done = false; halt = Some halt; by_itself = false }

-- the first is granted more than the budget and stops; its stop is ignored until the second begins, and then stops it too; neither is granted anything more
abbrev pub StopsAreCarried : Type 0
StopsAreCarried = (r : Round) (base first second : ℕ) → AreTwo r base first second → r.budget < base + first
    → LeadTo r (first_configuration r.system)
    (Begin 0 ∷ Grant 0 ∷ Deliver 0 ∷ Begin 1 ∷ Deliver 0 ∷ Grant 0 ∷ Grant 1 ∷ [])
    (Taken ∷ Taken ∷ Ignored ∷ Taken ∷ Taken ∷ Skipped ∷ Skipped ∷ [])
    (both (overdrawn r (base + first) (letter r true ∷ [])) (stopped_by (letter r true ∷ []) (Spent r.level (base + first))) (letter r true ∷ []))

-- ---- want of memory, and missing answers
-- it stopped by itself
abbrev pub halted_at : Option ℕ → List Stamp → Halt → NodeState
halted_at granted put_out halt = record { begun = true; had = []; granted = granted; put_out = put_out; done = false; halt = Some halt; by_itself = true }

-- memory may run out as soon as a node begins: then it is granted nothing
abbrev pub MemoryMayRunOut : Type 0
MemoryMayRunOut = (r : Round) (base first second : ℕ) → AreTwo r base first second
    → Runs r (first_configuration r.system) (Begin 0 ∷ Grant 0 ∷ []) (Taken ∷ Skipped ∷ []) (both (halted_at None (letter r true ∷ []) Memory) new_node (letter r true ∷ []))

-- an answer may be missing to each new question of the node that is granted its need within the budget
abbrev pub AnswersMayBeMissing : Type 0
AnswersMayBeMissing = (r : Round) (base first second x : ℕ) → AreTwo r base first second → base + first ≤ r.budget → IsNewQuestion r 0 x
    → Runs r (first_configuration r.system) (Begin 0 ∷ Grant 0 ∷ []) (Taken ∷ Taken ∷ []) (both (halted_at (Some (base + first)) (letter r true ∷ []) (Missing 0 x)) new_node (letter r true ∷ []))

-- ---- what is not sound
-- configurations of two contexts, each of which lacks one thing that soundness asks
pub record AreUnsound (r : Round) (total : ℕ) : Type 0 where
  -- the second context has no node
  pub no_second : ¬ IsSound r (record { nodes = begun_node ∷ []; letters = [] })
  -- a stamp is listed twice
  pub listed_twice : ¬ IsSound r (both (finished [] total (letter r false ∷ [])) begun_node (letter r false ∷ letter r false ∷ []))
  -- one that was put out is not listed
  pub unlisted : ¬ IsSound r (both (finished [] total (letter r false ∷ [])) begun_node [])
  -- one is listed that was not put out
  pub not_put_out : ¬ IsSound r (both begun_node begun_node (letter r false ∷ []))
  -- a stamp was had twice
  pub had_twice : ¬ IsSound r (both (finished [] total (letter r false ∷ [])) (record begun_node { had = letter r false ∷ letter r false ∷ [] }) (letter r false ∷ []))
  -- one was had that was not put out
  pub had_from_none : ¬ IsSound r (both begun_node (record begun_node { had = letter r false ∷ [] }) [])
  -- one was had by another than its addressee
  pub had_by_another : ¬ IsSound r (both (record (overdrawn r total (letter r true ∷ [])) { had = letter r true ∷ [] }) begun_node (letter r true ∷ []))
  -- a node is done that has not begun
  pub unbegun : ¬ IsSound r (both (record (finished [] total (letter r false ∷ [])) { begun = false }) begun_node (letter r false ∷ []))
  -- one waits that has had a stop
  pub waits_on : ¬ IsSound r (both (overdrawn r total (letter r true ∷ [])) (record begun_node { had = letter r true ∷ [] }) (letter r true ∷ []))
  -- one waits that stopped by itself
  pub waits_by_itself : ¬ IsSound r (both (record begun_node { by_itself = true }) begun_node [])
  -- one is done without its supply
  pub lacks_supply : ¬ IsSound r (both (finished [] total (letter r false ∷ [])) (finished [] total []) (letter r false ∷ []))
  -- one is done that has not put out its supply
  pub keeps_supply : ¬ IsSound r (both (finished [] total []) begun_node [])
  -- one is done that was granted more than the budget
  pub done_above : r.budget < total → ¬ IsSound r (both (finished [] total (letter r false ∷ [])) begun_node (letter r false ∷ []))
  -- one has put out a stop beside a supply
  pub both_letters : ¬ IsSound r (both (overdrawn r total (letter r false ∷ letter r true ∷ [])) begun_node (letter r false ∷ letter r true ∷ []))
  -- one has stopped that has not put out its stop
  pub keeps_stop : ¬ IsSound r (both (overdrawn r total []) begun_node [])
  -- one has stopped for the budget, within it
  pub spent_within : total ≤ r.budget → ¬ IsSound r (both (overdrawn r total (letter r true ∷ [])) begun_node (letter r true ∷ []))
  -- one was stopped by a letter, and has another halt than its sender
  pub other_halt : ¬ IsSound r (both (overdrawn r total (letter r true ∷ [])) (stopped_by (letter r true ∷ []) Memory) (letter r true ∷ []))
  -- one was stopped by no letter
  pub stopped_by_none : ¬ IsSound r (both begun_node (stopped_by [] Memory) [])
  -- one waits that was granted a total
  pub waits_granted : ¬ IsSound r (both (record begun_node { granted = Some total }) begun_node [])
  -- one waits that has put out its supply
  pub early_supply : ¬ IsSound r (both (record begun_node { put_out = letter r false ∷ [] }) begun_node (letter r false ∷ []))
  -- one is done that stopped by itself
  pub done_by_itself : ¬ IsSound r (both (record (finished [] total (letter r false ∷ [])) { by_itself = true }) begun_node (letter r false ∷ []))
  -- one has stopped that is done
  pub done_stopped : ¬ IsSound r (both (record (overdrawn r total (letter r true ∷ [])) { done = true }) begun_node (letter r true ∷ []))
  -- one was stopped by a letter that was granted a total
  pub stopped_granted : ¬ IsSound r (both (overdrawn r total (letter r true ∷ [])) (record (stopped_by (letter r true ∷ []) (Spent r.level total)) { granted = Some total }) (letter r true ∷ []))
  -- one lacks an answer to a question to another context, before it was granted a total, or to a question that is not new
  pub lacks_other : (x : ℕ) → ¬ IsSound r (both (halted_at (Some total) (letter r true ∷ []) (Missing 1 x)) begun_node (letter r true ∷ []))
  pub lacks_early : (x : ℕ) → ¬ IsSound r (both (halted_at None (letter r true ∷ []) (Missing 0 x)) begun_node (letter r true ∷ []))
  pub lacks_old : (x : ℕ) → ¬ IsNewQuestion r 0 x → ¬ IsSound r (both (halted_at (Some total) (letter r true ∷ []) (Missing 0 x)) begun_node (letter r true ∷ []))

abbrev pub UnsoundIsRefused : Type 0
UnsoundIsRefused = (r : Round) (base first second total : ℕ) → AreTwo r base first second → AreUnsound r total

-- ---- an example
-- the first round of the system in which the second context reads a fact of the first, at level 0
abbrev pub first_round : ℕ → Round
first_round budget = record { system = one_reads_fact; level = 0; budget = budget; before = None }

-- the same round again
abbrev pub next_round : ℕ → Round
next_round budget = record { system = one_reads_fact; level = 0; budget = budget; before = Some 0 }

-- it is a round of two contexts, which need two questions; the same round after it needs none
abbrev pub ExampleIsOfTwo : Type 0
ExampleIsOfTwo = (budget : ℕ) → ((first second : ℕ) × (first + second ≡ 2) × AreTwo (first_round budget) 0 first second) × AreTwo (next_round budget) 2 0 0
