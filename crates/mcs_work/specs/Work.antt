-- What the work of a task does to an evaluator and a device, from a text that was written before it on.
use Rattle.std.specs.Prelude.{◌≡◌, ℕ, ◌<◌, ◌≤◌, true, List, ◌++◌, Option, Some, Result, OnOk, IfErr}
use Rattle.mcs_ports.specs.Causes.{Rose}
use Rattle.mcs_ports.specs.Pieces.{Device, appended}
use Rattle.mcs_system.specs.Plain.{System}
use Rattle.mcs_states.specs.Evaluators.{EvaluatorState, KeepsRest, IsEvaluatorSettled, ExceedsBudget, IsUnanswered}
use Rattle.mcs_states.specs.declared.halt.Halt.TheVariants as halts
use Rattle.mcs_work.specs.Tasks.{IsTaskText, IsTaskStage, IsTaskUpTo, TakesLevel, IsLastTaken}
use Rattle.mcs_work.specs.declared.task.Task.{Task}
use Rattle.mcs_work.specs.declared.task.WorkStop.{WorkStop}
use Rattle.mcs_work.specs.declared.task.WorkStop.TheVariants as stops

-- with what was written so far, a front of a stage was written
pub record LeavesStage (task : Task) (m : System) (so_far : List ℕ) (before now : Option (List ℕ)) : Type 0 where
  pub part : List ℕ
  pub rest : List ℕ
  pub stage : IsTaskStage task m (so_far ++ (part ++ rest))
  pub written : now ≡ appended before part

-- with what was written so far, the text of the task was written whole; each level of it was done, the greatest is the last, and the evaluator is settled: its journals hold exactly the questions of that level
pub record IsDone (task : Task) (so_far : List ℕ) (e e' : EvaluatorState) (before now : Option (List ℕ)) : Type 0 where
  pub part : List ℕ
  pub text : IsTaskText task e.system (so_far ++ part)
  pub written : now ≡ appended before part
  pub level : ℕ
  pub last : IsLastTaken task e.system level
  pub level_done : e'.done ≡ Some level
  pub settled : IsEvaluatorSettled e'
  pub within : (k : ℕ) → TakesLevel task e.system k → ¬ ExceedsBudget e k
  pub answered : (k i x : ℕ) → TakesLevel task e.system k → ¬ IsUnanswered e k i x

-- the level is the least one of the task that has more questions than the budget; with what was written so far, what is printed before it was written
pub record IsSpent (task : Task) (so_far : List ℕ) (e e' : EvaluatorState) (level : ℕ) (before now : Option (List ℕ)) : Type 0 where
  pub taken : TakesLevel task e.system level
  pub beyond : ExceedsBudget e level
  pub least : (k : ℕ) → k < level → ¬ ExceedsBudget e k
  pub drawn : ℕ
  pub halt : e'.halt ≡ Some (halts.Spent level drawn)
  pub over : e'.halted ≡ true
  pub part : List ℕ
  pub text : IsTaskUpTo task e.system level (so_far ++ part)
  pub written : now ≡ appended before part

-- a question of a level of the task has no answer
pub record IsMissing (task : Task) (so_far : List ℕ) (e e' : EvaluatorState) (context active : ℕ) (before now : Option (List ℕ)) : Type 0 where
  pub level : ℕ
  pub taken : TakesLevel task e.system level
  pub unanswered : IsUnanswered e level context active
  pub halt : e'.halt ≡ Some (halts.Missing context active)
  pub over : e'.halted ≡ true
  pub left : LeavesStage task e.system so_far before now

-- the cause of a stop, and what was written then; a write failed exactly where that is the cause
abbrev pub HasStopped : Task → List ℕ → EvaluatorState → EvaluatorState → Device → Device → WorkStop → Type 0
HasStopped task so_far e e' before now stops.Write = Rose before.faults now.faults × LeavesStage task e.system so_far before.written now.written
HasStopped task so_far e e' before now (stops.Spent level) = (now.faults ≡ before.faults) × IsSpent task so_far e e' level before.written now.written
HasStopped task so_far e e' before now (stops.Missing context active) = (now.faults ≡ before.faults) × IsMissing task so_far e e' context active before.written now.written
HasStopped task so_far e e' before now stops.Memory = (now.faults ≡ before.faults) × LeavesStage task e.system so_far before.written now.written

-- a part of the work came to its end and no write failed, or the work stopped in it; nothing else was changed
pub record Proceeds {T : Type 0} (task : Task) (so_far : List ℕ) (e e' : EvaluatorState) (before now : Device) (r : Result T WorkStop) : Type 0 where
  pub later : before.faults ≤ now.faults
  pub notes : now.notes ≡ before.notes
  pub rest : KeepsRest e e'
  pub quiet : OnOk r (now.faults ≡ before.faults)
  pub stop : IfErr r (HasStopped task so_far e e' before now)

-- the work was done and no write failed, or it stopped; nothing else was changed
pub record Works (task : Task) (so_far : List ℕ) (e e' : EvaluatorState) (before now : Device) (r : Result (Unit {0}) WorkStop) : Type 0 where
  pub later : before.faults ≤ now.faults
  pub notes : now.notes ≡ before.notes
  pub rest : KeepsRest e e'
  pub quiet : OnOk r (now.faults ≡ before.faults)
  pub done : OnOk r (IsDone task so_far e e' before.written now.written)
  pub stop : IfErr r (HasStopped task so_far e e' before now)
