-- What the check of a report leaves.
use Rattle.std.specs.Prelude.{ℕ, List}
use Rattle.mcs_system.specs.Plain.{System}
use Rattle.mcs_check.specs.declared.checking.Checked.{Checked}
use Rattle.mcs_check.specs.declared.checking.Checked.TheVariants as checked
use Rattle.mcs_check.specs.declared.finding.Finding.{Finding}
use Rattle.mcs_check.specs.declared.finding.Finding.TheVariants.{Valid, Fails}
use Rattle.mcs_check.specs.Findings.{IsReportFinding}
use Rattle.mcs_check.specs.Relisting.{AreAccepted}

-- the finding of the check
abbrev pub finding_in : Checked → Finding
finding_in (checked.Valid accepted) = Valid
finding_in (checked.Fails line reason) = Fails line reason

-- of a valid report the oracles hold all answers that are needed, and what was told of the system is right
abbrev pub HoldsAnswers : System → Checked → Type 0
HoldsAnswers m (checked.Valid accepted) = AreAccepted m accepted.oracles.items accepted.told
HoldsAnswers m (checked.Fails line reason) = Unit {0}

-- the finding is that of these bytes as a report on the system, and what is left of it is as told
pub record ShowsCheck (m : System) (bytes : List ℕ) (c : Checked) : Type 0 where
  pub found : IsReportFinding m bytes (finding_in c)
  pub holds : HoldsAnswers m c
