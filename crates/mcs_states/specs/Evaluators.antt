-- What an evaluator stands for, and what its calls answer.
use Rattle.std.specs.Prelude.{◌≡◌, ℕ, ◌+◌, ◌<◌, ◌≤◌, max, Bool, true, false, List, [], map, length, Option, Some, None, slice_get}
use Rattle.std.specs.List.{sum_by}
use Rattle.mcs_base.specs.Listings.{IsListing, IsInventory}
use Rattle.mcs_base.specs.Minimal.{IsMinimal}
use Rattle.mcs_base.specs.Pairs.{removed_of, forced_of}
use Rattle.mcs_sets.specs.Orders.{StateBefore, PairBefore}
use Rattle.mcs_sets.specs.Sets.{size, minus}
use Rattle.mcs_system.specs.Levels.{IsQuestionAt, HasQuestions}
use Rattle.mcs_system.specs.Plain.{System}
use Rattle.mcs_system.specs.Repairs.{IsDiagnosis}
use Rattle.mcs_system.specs.Systems.{IsProjectedEquilibrium, all_rules}
use Rattle.mcs_states.specs.Oracles.{OracleState, with_journal, Lacks}
use Rattle.mcs_states.specs.declared.halt.Halt.{Halt}
use Rattle.mcs_states.specs.declared.halt.Halt.TheVariants.{Spent, Missing, Memory}

pub record EvaluatorState : Type 0 where
  pub system : System
  -- the most questions of a level that may be asked
  pub budget : ℕ
  -- by how many workers its rounds are played
  pub workers : ℕ
  -- the greatest level done
  pub done : Option ℕ
  -- what its own call answered in place of an answer
  pub halt : Option Halt
  -- whether it can be asked no more
  pub halted : Bool
  -- for each context, in order, what its oracle stands for
  pub oracles : List OracleState

-- the oracles without their journals
abbrev pub unasked : List OracleState → List OracleState
unasked oracles = map (with_journal []) oracles

-- the greatest level done once this level is done too
abbrev pub raised : Option ℕ → ℕ → Option ℕ
raised None level = Some level
raised (Some done) level = Some (max done level)

-- Of what an evaluator stands for, the greatest level done, its halt and the journals alone change.
pub record KeepsRest (before after : EvaluatorState) : Type 0 where
  pub system : after.system ≡ before.system
  pub budget : after.budget ≡ before.budget
  pub workers : after.workers ≡ before.workers
  pub oracles : unasked after.oracles ≡ unasked before.oracles

-- x is a question of the greatest level done: of none where no level was done
abbrev pub IsJournalQuestion : System → Option ℕ → ℕ → ℕ → Type 0
IsJournalQuestion m None i x = ⊥
IsJournalQuestion m (Some level) i x = IsQuestionAt m level i x

-- there is an oracle for each context
abbrev pub HasOracles : EvaluatorState → Type 0
HasOracles e = length e.oracles ≡ length e.system.contexts

-- it can be asked on, and the journals hold exactly the questions of the greatest level done, each once
pub record IsEvaluatorSettled (e : EvaluatorState) : Type 0 where
  pub going : e.halted ≡ false
  pub no_halt : e.halt ≡ None
  pub one_each : HasOracles e
  pub own : (i : ℕ) (o : OracleState) → slice_get e.oracles i ≡ Some o → (o.system ≡ e.system) × (o.context ≡ i)
  pub asked : (i : ℕ) (o : OracleState) → slice_get e.oracles i ≡ Some o → IsInventory (IsJournalQuestion e.system e.done i) o.journal

-- the number of the questions in the journals
abbrev pub asked_of : EvaluatorState → ℕ
asked_of e = sum_by (λ (o : OracleState). length o.journal) e.oracles

-- the questions of the level are more than the budget
abbrev pub ExceedsBudget : EvaluatorState → ℕ → Type 0
ExceedsBudget e level = HasQuestions e.system level (e.budget + 1)

-- the oracle of context i lacks an answer for x, which is a question of the level
pub record IsUnanswered (e : EvaluatorState) (level i x : ℕ) : Type 0 where
  pub oracle : OracleState
  pub is_its : slice_get e.oracles i ≡ Some oracle
  pub lacks : Lacks oracle x
  pub question : IsQuestionAt e.system level i x

-- A call of the level came to its end: the level is done, within the budget and with no answer missing.
pub record HasDone (before after : EvaluatorState) (level : ℕ) : Type 0 where
  pub level_done : after.done ≡ raised before.done level
  pub settled : IsEvaluatorSettled after
  pub within : ¬ ExceedsBudget before level
  pub answered : (i x : ℕ) → ¬ IsUnanswered before level i x

-- the cause of a halt of a call of the level
abbrev pub HasHaltCause : EvaluatorState → ℕ → Halt → Type 0
HasHaltCause e level (Spent at drawn) = (at ≡ level) × (e.budget < drawn) × HasQuestions e.system level drawn
HasHaltCause e level (Missing context active) = IsUnanswered e level context active
HasHaltCause e level Memory = Unit {0}

-- A call of the level halted, for a cause, and the evaluator can be asked no more.
pub record HasHalted (before after : EvaluatorState) (level : ℕ) (halt : Halt) : Type 0 where
  pub cause : HasHaltCause before level halt
  pub told : after.halt ≡ Some halt
  pub over : after.halted ≡ true

-- the listing of the minimal diagnoses with at most so many marks
abbrev pub AreRepairs : System → ℕ → List ℕ → Type 0
AreRepairs m level pairs = IsListing (λ p. IsMinimal (IsDiagnosis m) p × (size p ≤ level)) PairBefore pairs

-- σ is a projected equilibrium of the system changed by the pair
abbrev pub IsStateOf : System → ℕ → ℕ → Type 0
IsStateOf m pair σ = IsProjectedEquilibrium m (minus (all_rules m) (removed_of pair)) (forced_of pair) σ

-- the listing of the projected equilibria of the system changed by the pair
abbrev pub AreStates : System → ℕ → List ℕ → Type 0
AreStates m pair states = IsListing (IsStateOf m pair) StateBefore states

-- ---- a call that is handed an evaluator
-- Unless it is want of memory, which may be the call's own, the halt is that of the evaluator, which can be asked no more.
abbrev pub IsHaltOf : EvaluatorState → Halt → Type 0
IsHaltOf e (Spent level drawn) = (e.halt ≡ Some (Spent level drawn)) × (e.halted ≡ true)
IsHaltOf e (Missing context active) = (e.halt ≡ Some (Missing context active)) × (e.halted ≡ true)
IsHaltOf e Memory = Unit {0}
