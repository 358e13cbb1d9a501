-- What is kept of the answers of a report.
use Rattle.std.specs.Prelude.{◌≡◌, ℕ, ◌+◌, ◌≤◌, List, length, Option, None, Result, Ok, Err}
use Rattle.std.specs.List.{AllZip, zip}
use Rattle.mcs_system.specs.Plain.{System}
use Rattle.mcs_proof_text.specs.Answers.{Answer}
use Rattle.mcs_proof_text.specs.Reports.{SpellsReport, IsFirstLineFault, report_lines}
use Rattle.mcs_proof_lines.specs.Walks.{At, Reading, ReturnsReading}
use Rattle.mcs_proof_lines.specs.declared.fault.ReportFault.{ReportFault}
use Rattle.mcs_proof_lines.specs.declared.fault.ReportFault.TheVariants.{Grammar, Memory}
use Rattle.mcs_proof_reader.specs.Answers.{Shown, answer_at, answers_at, question_in}
use Rattle.mcs_proof_reader.specs.Readers.{answer_in_report}
use Rattle.mcs_proof_reader.specs.Whole.{first_lines_from}
use Rattle.mcs_proof_reader.specs.declared.answer.ReportAnswer as code

-- ---- one answer
-- the answer to the question, with what is shown
abbrev pub answer_with : ℕ × ℕ → Shown → Answer
answer_with q shown = record { context = q.0; active = q.1; outputs = shown.0; cert = shown.1 }

-- what is shown was read, and of the answer with it, which begins at this line, this is kept
pub record IsTakenAndKept {K : Type 0} (keeps : System → Answer → ℕ → K → Type 0) (m : System) (q : ℕ × ℕ) (line : ℕ) (kept : K) (now : At) (read : Reading Shown) : Type 0 where
  pub shown : Shown
  pub is : read ≡ Ok (shown, now)
  pub keeps_it : keeps m (answer_with q shown) line kept

-- the same, unless the reading fails or memory ran out
abbrev pub TakesAndKeeps : {K : Type 0} → (System → Answer → ℕ → K → Type 0) → System → ℕ × ℕ → ℕ → Result K ReportFault → At → Reading Shown → Type 0
TakesAndKeeps keeps m q line (Ok kept) now read = IsTakenAndKept keeps m q line kept now read
TakesAndKeeps keeps m q line (Err fault) now read = ReturnsReading fault read

-- the next answer was read, to this question, and this is kept of it
pub record IsNextKept {K : Type 0} (keeps : System → Answer → ℕ → K → Type 0) (m : System) (last : Option (ℕ × ℕ)) (old new : At) (q : ℕ × ℕ) (kept : K) : Type 0 where
  pub answer : Answer
  pub read : answer_at m last old ≡ Ok (answer, new)
  pub asked : question_in answer ≡ q
  pub keeps_it : keeps m answer (old.taken + 1) kept

-- it is this answer, which begins at this line
pub record IsWholeAnswer (a : Answer) (line : ℕ) (kept : code.ReportAnswer) : Type 0 where
  pub answer : answer_in_report kept ≡ a
  pub begins : kept.line ≡ line

-- ---- all answers
-- of each answer, in order, this is kept, where the first one begins at this line
abbrev pub EachIsKept : {K : Type 0} → (System → Answer → ℕ → K → Type 0) → System → ℕ → List Answer → List K → Type 0
EachIsKept keeps m n answers kept = AllZip (λ (a : Answer × ℕ) k. keeps m a.0 a.1 k) (zip answers (first_lines_from m n answers)) kept

-- answers are read from the one place to the other, and of these this is kept
pub record AreReadAndKept {K : Type 0} (keeps : System → Answer → ℕ → K → Type 0) (m : System) (old new : At) (held : List K) : Type 0 where
  pub answers : List Answer
  pub read : (n : ℕ) → length old.rest ≤ n → answers_at m n None old ≡ Ok (answers, new)
  pub kept : EachIsKept keeps m (old.taken + 1) answers held

-- the bytes spell a report with this listing; what is kept of its answers, the first of which begins after the listing and the line that separates them; the number of the last line
pub record IsKeptReport {K : Type 0} (keeps : System → Answer → ℕ → K → Type 0) (m : System) (bytes : List ℕ) (listing : List (List ℕ)) (held : List K) (last_line : ℕ) : Type 0 where
  pub answers : List Answer
  pub spelled : SpellsReport m bytes listing answers
  pub kept : EachIsKept keeps m (length listing + 2) answers held
  pub ends : last_line ≡ length (report_lines m listing answers)

-- the line is the first that is out of place
abbrev pub IsReportFault : System → List ℕ → ReportFault → Type 0
IsReportFault m bytes (Grammar line) = IsFirstLineFault m bytes line
IsReportFault m bytes Memory = Unit {0}
