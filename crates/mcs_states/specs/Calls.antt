-- What a call needs of an evaluator, and what it does to it.
use Rattle.std.specs.Prelude.{◌≡◌, ℕ, false, None, Result, OnOk, IfErr}
use Rattle.mcs_sets.specs.Sets.{Within}
use Rattle.mcs_system.specs.Plain.{System}
use Rattle.mcs_system.specs.Repairs.{allowed_marks}
use Rattle.mcs_states.specs.Evaluators.{EvaluatorState, KeepsRest, HasDone, HasHalted, HasHaltCause, IsHaltOf}
use Rattle.mcs_states.specs.declared.halt.Halt.{Halt}

-- it is of this system, and can be asked on
pub record CanEvaluate (m : System) (e : EvaluatorState) : Type 0 where
  pub same : e.system ≡ m
  pub going : e.halted ≡ false

-- it is of this system, has done no level yet, and can be asked on
pub record CanBegin (m : System) (e : EvaluatorState) : Type 0 where
  pub same : e.system ≡ m
  pub fresh : e.done ≡ None
  pub going : e.halted ≡ false

-- it can be asked on, and each mark of the pair is one that a repair of its system may have
pub record CanChange (e : EvaluatorState) (pair : ℕ) : Type 0 where
  pub going : e.halted ≡ false
  pub allowed : Within pair (allowed_marks e.system)

-- the level is done, or the evaluator halted; nothing else of it was changed
pub record Evaluates {T : Type 0} (level : ℕ) (before after : EvaluatorState) (result : Result T Halt) : Type 0 where
  pub done : OnOk result (HasDone before after level)
  pub halt : IfErr result (HasHalted before after level)
  pub rest : KeepsRest before after

-- ---- a call that is handed an evaluator
-- its halt has a cause of the level, and is the evaluator's, unless it is want of memory, which may be its own
pub record HasHaltOf (before after : EvaluatorState) (level : ℕ) (halt : Halt) : Type 0 where
  pub cause : HasHaltCause before level halt
  pub told : IsHaltOf after halt

-- the same, once the level is done too
pub record AsksEvaluator {T : Type 0} (level : ℕ) (before after : EvaluatorState) (result : Result T Halt) : Type 0 where
  pub done : OnOk result (HasDone before after level)
  pub halt : IfErr result (HasHaltOf before after level)
  pub rest : KeepsRest before after
