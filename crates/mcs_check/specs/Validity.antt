-- When a report on a system is valid, and the first line that shows that it is not.
use Rattle.std.specs.Prelude.{◌≡◌, ℕ, ◌+◌, ◌^◌, ◌<◌, ◌≤◌, List, ◌++◌, length, take, Some, slice_get}
use Rattle.std.specs.List.{AllByRecursion, flat_map}
use Rattle.mcs_system.specs.Plain.{System}
use Rattle.mcs_system.specs.Faults.{IsValid}
use Rattle.mcs_system.specs.Naming.{IsSystemNamed}
use Rattle.mcs_system.specs.Justifications.{SystemIsJustifiedUpTo}
use Rattle.mcs_system.specs.Levels.{IsQuestionAt}
use Rattle.mcs_report.specs.Solutions.{IsWholeListing}
use Rattle.mcs_proof_text.specs.Lines.{text_of_lines}
use Rattle.mcs_proof_text.specs.Answers.{Answer, answer_lines}
use Rattle.mcs_proof_text.specs.Reports.{SpellsReport, IsFirstLineFault, IsLineFeedFree, report_lines, most_report_bytes}
use Rattle.mcs_proof_text.specs.Proofs.{AreProof, IsAnswered, HasAcceptedCertificate, proof_lines}
use Rattle.mcs_work.specs.Tasks.{IsLastTaken}
use Rattle.mcs_work.specs.declared.task.Task.TheVariants.{Solve}
use Rattle.mcs_check.specs.declared.finding.Reason.{Reason}
use Rattle.mcs_check.specs.declared.finding.Reason.TheVariants as reasons

-- ---- the questions that the listing of a system rests on: those of the last level that it takes
abbrev pub IsNeeded : System → ℕ → ℕ → Type 0
IsNeeded m i x = (level : ℕ) × IsLastTaken Solve m level × (i < length m.contexts) × IsQuestionAt m level i x

-- each of them has an answer
abbrev pub AreComplete : System → List Answer → Type 0
AreComplete m answers = (i x : ℕ) → IsNeeded m i x → IsAnswered answers i x

-- ---- a report
-- it is spelled, each answer is right, each question that is needed has an answer, and its listing is that of the system
pub record IsValidReport (m : System) (bytes : List ℕ) : Type 0 where
  pub listing : List (List ℕ)
  pub answers : List Answer
  pub spelled : SpellsReport m bytes listing answers
  pub right : AllByRecursion (HasAcceptedCertificate m) answers
  pub complete : AreComplete m answers
  pub same : IsWholeListing m (text_of_lines listing)

-- it is spelled, and this is the number of the first answer that is not right, counted from 0
pub record HasWrongAnswer (m : System) (bytes : List ℕ) (line : ℕ) : Type 0 where
  pub listing : List (List ℕ)
  pub answers : List Answer
  pub spelled : SpellsReport m bytes listing answers
  pub number : ℕ
  pub answer : Answer
  pub is_it : slice_get answers number ≡ Some answer
  pub wrong : ¬ HasAcceptedCertificate m answer
  pub before : AllByRecursion (HasAcceptedCertificate m) (take number answers)
  -- the line of its question
  pub line_is : line ≡ length listing + 1 + length (flat_map (answer_lines m) (take number answers)) + 1

-- it is spelled and each answer is right, but a question that is needed has none; the line is the last one
pub record LacksAnswer (m : System) (bytes : List ℕ) (line : ℕ) : Type 0 where
  pub listing : List (List ℕ)
  pub answers : List Answer
  pub spelled : SpellsReport m bytes listing answers
  pub right : AllByRecursion (HasAcceptedCertificate m) answers
  pub context : ℕ
  pub active : ℕ
  pub needed : IsNeeded m context active
  pub unanswered : ¬ IsAnswered answers context active
  pub line_is : line ≡ length (report_lines m listing answers)

-- the lines are the same before this one, counted from 1, and differ there
pub record DifferFirst (lines other : List (List ℕ)) (line : ℕ) : Type 0 where
  pub index : ℕ
  pub line_is : line ≡ index + 1
  pub same : take index lines ≡ take index other
  pub differ : ¬ (slice_get lines index ≡ slice_get other index)

-- it is spelled, each answer is right and none is missing, but its listing differs first at this line from that of the system
pub record HasOtherListing (m : System) (bytes : List ℕ) (line : ℕ) : Type 0 where
  pub listing : List (List ℕ)
  pub answers : List Answer
  pub spelled : SpellsReport m bytes listing answers
  pub right : AllByRecursion (HasAcceptedCertificate m) answers
  pub complete : AreComplete m answers
  pub due : List (List ℕ)
  pub free : AllByRecursion IsLineFeedFree due
  pub whole : IsWholeListing m (text_of_lines due)
  pub differ : DifferFirst listing due line

-- the first test that it fails, and the line that shows so
abbrev pub IsFailure : System → List ℕ → ℕ → Reason → Type 0
IsFailure m bytes line reasons.Grammar = IsFirstLineFault m bytes line
IsFailure m bytes line reasons.Certificate = HasWrongAnswer m bytes line
IsFailure m bytes line reasons.Missing = LacksAnswer m bytes line
IsFailure m bytes line reasons.Listing = HasOtherListing m bytes line

-- ---- a listing with its proof
-- the whole listing of the system, and right answers to exactly the questions that it rests on
pub record IsProvedListing (m : System) (text : List ℕ) : Type 0 where
  pub listing : List ℕ
  pub whole : IsWholeListing m listing
  pub level : ℕ
  pub last : IsLastTaken Solve m level
  pub answers : List Answer
  pub proof : AreProof m level answers
  pub text_is : text ≡ listing ++ text_of_lines (proof_lines m answers)

-- ---- laws
-- one that is no longer than a report is a valid report
abbrev pub ProvedListingsAreValid : Type 0
ProvedListingsAreValid = (m : System) (n : ℕ) (text : List ℕ) → IsValid m → IsSystemNamed m → n < 2 ^ 32 → SystemIsJustifiedUpTo n m → length text ≤ most_report_bytes
    → IsProvedListing m text → IsValidReport m text

-- a valid report on a system that can be read fails no test
abbrev pub ValidReportsFailNothing : Type 0
ValidReportsFailNothing = (m : System) (bytes : List ℕ) (line : ℕ) (reason : Reason) → IsValid m → IsSystemNamed m → IsValidReport m bytes → ¬ IsFailure m bytes line reason
