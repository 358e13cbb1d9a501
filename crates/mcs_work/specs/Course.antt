-- Diagnoses are printed level by level: what holds before a level.
use Rattle.std.specs.Prelude.{◌≡◌, ℕ, ◌+◌, ◌-◌, ◌<◌, ◌≤◌, Bool, true, false, List, [], ◌++◌, length, Option, Some}
use Rattle.mcs_ports.specs.Pieces.{appended}
use Rattle.mcs_system.specs.Plain.{System}
use Rattle.mcs_states.specs.Evaluators.{EvaluatorState, HasDone, IsEvaluatorSettled, ExceedsBudget, IsUnanswered}
use Rattle.mcs_diagnosis.specs.declared.diagnosis.Diagnosis as code
use Rattle.mcs_diagnosis.specs.Courses.{IsPast}
use Rattle.mcs_diagnosis.specs.Diagnoses.{AreFoundBelow}
use Rattle.mcs_report.specs.Solutions.{AreEquilibria}
use Rattle.mcs_work.specs.Extents.{diagnoses_part, front_part}
use Rattle.mcs_work.specs.Tasks.{opening}
use Rattle.mcs_work.specs.declared.task.Task.{Task}
use Rattle.mcs_work.specs.declared.extent.Extent.{Extent}

-- of a system; all levels before this one were done, level 0 always; these are their diagnoses
pub record IsUnderWay (m : System) (e : EvaluatorState) (level : ℕ) (ds : List code.Diagnosis) : Type 0 where
  pub same : e.system ≡ m
  pub settled : IsEvaluatorSettled e
  pub done : e.done ≡ Some (level - 1)
  pub repairs : AreFoundBelow m level ds
  pub within : (k : ℕ) → k ≤ level - 1 → ¬ ExceedsBudget e k
  pub answered : (k i x : ℕ) → k ≤ level - 1 → ¬ IsUnanswered e k i x
  pub not_past : 0 < level → ¬ IsPast m (level - 1)

-- what comes before the first question was written, level 0 was done, and these are the equilibria
pub record HasFoundEquilibria (task : Task) (m : System) (e e' : EvaluatorState) (before now : Option (List ℕ)) (states : List ℕ) : Type 0 where
  pub found : AreEquilibria m states
  pub done : HasDone e e' 0
  pub written : now ≡ appended before (opening task m)

-- the equilibria are known, so many, and what is printed up to them was written; the diagnoses come next
pub record HasBegun (x : Extent) (m : System) (e' : EvaluatorState) (before now : Option (List ℕ)) (count : ℕ) : Type 0 where
  pub under_way : IsUnderWay m e' 0 []
  pub states : List ℕ
  pub equilibria : AreEquilibria m states
  pub counted : length states ≡ count
  pub written : now ≡ appended before (front_part x m states [])

-- so many diagnoses were listed before, and what is printed of these was written
pub record AddsLines (x : Extent) (m : System) (ds ds' : List code.Diagnosis) (before now : Option (List ℕ)) : Type 0 where
  pub fresh : List code.Diagnosis
  pub grown : ds' ≡ ds ++ fresh
  pub written : now ≡ appended before (diagnoses_part x m (length ds + 1) fresh)

-- a level more was taken, or there is none
abbrev pub HasGone : Extent → System → ℕ → ℕ → List code.Diagnosis → List code.Diagnosis → Option (List ℕ) → Option (List ℕ) → Bool → Type 0
HasGone x m level level' ds ds' before now true = (level' ≡ level + 1) × (level ≤ length m.bridges) × AddsLines x m ds ds' before now
HasGone x m level level' ds ds' before now false = (level' ≡ level) × (ds' ≡ ds) × (now ≡ before) × IsPast m level

-- what was under way has gone on so
pub record HasGoneOn (x : Extent) (m : System) (e' : EvaluatorState) (level level' : ℕ) (ds ds' : List code.Diagnosis) (before now : Option (List ℕ)) (more : Bool) : Type 0 where
  pub under_way : IsUnderWay m e' level' ds'
  pub gone : HasGone x m level level' ds ds' before now more

-- all levels were taken, and what is printed of these diagnoses was written
pub record HasEnded (x : Extent) (m : System) (e' : EvaluatorState) (level' : ℕ) (before now : Option (List ℕ)) (ds : List code.Diagnosis) : Type 0 where
  pub under_way : IsUnderWay m e' level' ds
  pub past : IsPast m level'
  pub written : now ≡ appended before (diagnoses_part x m 1 ds)
