-- What the examination of a report on the system of a file tells, and why there is none.
use Rattle.std.specs.Prelude.{◌≡◌, ◌⊎◌, ℕ, ◌≤◌, List, length, Option, IfSome}
use Rattle.mcs_system.specs.Plain.{System}
use Rattle.mcs_work.specs.Tasks.{IsTaskText}
use Rattle.mcs_work.specs.declared.task.Task.TheVariants.{Cheapest}
use Rattle.mcs_check.specs.Findings.{IsReportFinding, RulesOut, finding_line}
use Rattle.mcs_check.specs.declared.finding.Finding.{Finding}
use Rattle.mcs_check.specs.declared.finding.Finding.TheVariants.{Valid, Fails}
use Rattle.mcs_proof_text.specs.Reports.{most_report_bytes}
use Rattle.mcs_listing.specs.Jobs.{File, OfTwoFiles, LacksOneOfTwo}
use Rattle.mcs_listing.specs.Texts.{IsTextOf}
use Rattle.mcs_listing.specs.declared.ending.Stop.{Stop}
use Rattle.mcs_listing.specs.declared.ending.Stop.TheVariants as stops
use Rattle.mcs_top.specs.Meaning.{IsCheckRefusal}

-- the first bytes spell the system, the others are not too many, and this is what is to be found of them, and no other
abbrev pub HasFound : System → Finding → List ℕ → List ℕ → Type 0
HasFound m found bytes report = IsTextOf m bytes × (length report ≤ most_report_bytes) × IsReportFinding m report found × RulesOut m report found

-- so it is with the files, by what a shelf tells of them
abbrev pub AreExamined : System → Finding → Option (List File) → Type 0
AreExamined m found files = IfSome files (OfTwoFiles (HasFound m found))

-- why a report is not examined: one of the files is refused, or is not there, or a call on it failed
abbrev pub StopsExamining : Stop → Type 0 → Type 0 → Option (List File) → Type 0
StopsExamining (stops.Refused why) rose failed files = IfSome files (IsCheckRefusal why)
StopsExamining stops.ReadFault rose failed files = rose × IfSome files (λ fs. LacksOneOfTwo (λ bytes. (m : System) × IsTextOf m bytes) fs ⊎ failed)
StopsExamining stops.Memory rose failed files = Unit {0}
StopsExamining stops.Usage rose failed files = ⊥
StopsExamining (stops.Unfinished level budget) rose failed files = ⊥
StopsExamining stops.WriteFault rose failed files = ⊥

-- of a valid report the text tells this, and of one that fails a test, which and where
abbrev pub TellsOf : (List ℕ → System → List ℕ → Type 0) → System → List ℕ → List ℕ → Finding → Type 0
TellsOf IsTold m report text Valid = IsTold text m report
TellsOf IsTold m report text (Fails line reason) = text ≡ finding_line (Fails line reason)

-- of a system with a valid report the text lists the cheapest diagnoses
abbrev pub TellsCheapest : System → List ℕ → Finding → Type 0
TellsCheapest m text Valid = IsTaskText Cheapest m text
TellsCheapest m text (Fails line reason) = text ≡ finding_line (Fails line reason)
