-- What is printed of each part of a listing, by its extent.
use Rattle.std.specs.Prelude.{ℕ, nat_lt, List, [], ◌++◌, length}
use Rattle.mcs_system.specs.Plain.{System}
use Rattle.mcs_diagnosis.specs.declared.diagnosis.Diagnosis as code
use Rattle.mcs_report.specs.Listing.{verdict_line}
use Rattle.mcs_report.specs.Repairs.{end_line}
use Rattle.mcs_report.specs.Solutions.{equilibria_part, diagnosis_lines, explanation_lines}
use Rattle.mcs_work.specs.Tasks.{opening}
use Rattle.mcs_work.specs.declared.extent.Extent.{Extent}
use Rattle.mcs_work.specs.declared.extent.Extent.TheVariants.{Whole, Counts}
use Rattle.mcs_work.specs.declared.task.Task.{Task}
use Rattle.mcs_work.specs.declared.task.Task.TheVariants.{Solve, Make}

abbrev pub task_of : Extent → Task
task_of Whole = Solve
task_of Counts = Make

-- once the equilibria are known
abbrev pub states_part : Extent → System → List ℕ → List ℕ
states_part Whole m states = equilibria_part m states
states_part Counts m states = []

-- once these diagnoses are known, the first of which has number k
abbrev pub diagnoses_part : Extent → System → ℕ → List code.Diagnosis → List ℕ
diagnoses_part Whole m k ds = diagnosis_lines m k ds
diagnoses_part Counts m k ds = []

-- once the explanations are known, where there are so many equilibria
abbrev pub explanations_part : Extent → System → ℕ → List ℕ → List ℕ → List ℕ
explanations_part Whole m equilibria pairs ts = explanation_lines m 1 pairs ts
explanations_part Counts m equilibria pairs ts = verdict_line (nat_lt 0 equilibria)

-- up to the last diagnosis
abbrev pub front_part : Extent → System → List ℕ → List code.Diagnosis → List ℕ
front_part x m states ds = opening (task_of x) m ++ (states_part x m states ++ diagnoses_part x m 1 ds)

-- after it
abbrev pub rest_part : Extent → System → ℕ → List ℕ → List ℕ → ℕ → List ℕ
rest_part x m equilibria pairs ts need = explanations_part x m equilibria pairs ts ++ end_line equilibria (length pairs) (length ts) need
