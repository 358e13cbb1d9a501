-- What the check of a report finds, and the line that tells it.
use Rattle.std.specs.Prelude.{ℕ, List, ◌++◌, codes}
use Rattle.std.specs.Fmt.{decimal}
use Rattle.mcs_system.specs.Plain.{System}
use Rattle.mcs_check.specs.declared.finding.Reason.{Reason}
use Rattle.mcs_check.specs.declared.finding.Reason.TheVariants.{Grammar, Certificate, Missing, Listing}
use Rattle.mcs_check.specs.declared.finding.Finding.{Finding}
use Rattle.mcs_check.specs.declared.finding.Finding.TheVariants.{Valid, Fails}
use Rattle.mcs_check.specs.Validity.{IsValidReport, IsFailure}

-- the report is valid, or fails a test
abbrev pub IsReportFinding : System → List ℕ → Finding → Type 0
IsReportFinding m bytes Valid = IsValidReport m bytes
IsReportFinding m bytes (Fails line reason) = IsFailure m bytes line reason

-- what is found rules out the rest: a valid report fails no test, and one that fails a test is not valid
abbrev pub RulesOut : System → List ℕ → Finding → Type 0
RulesOut m bytes Valid = (line : ℕ) (reason : Reason) → ¬ IsFailure m bytes line reason
RulesOut m bytes (Fails line reason) = ¬ IsValidReport m bytes

abbrev pub reason_word : Reason → List ℕ
reason_word Grammar = codes "grammar"
reason_word Certificate = codes "certificate"
reason_word Missing = codes "missing"
reason_word Listing = codes "listing"

-- valid
-- not valid: line L: REASON
unfoldable pub finding_line : Finding → List ℕ
finding_line Valid = codes "valid\n"
finding_line (Fails line reason) = codes "not valid: line " ++ (decimal line ++ (codes ": " ++ (reason_word reason ++ codes "\n")))
