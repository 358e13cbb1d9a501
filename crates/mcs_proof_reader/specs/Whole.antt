-- What is told of the bytes of a report.
use Rattle.std.specs.Prelude.{◌≡◌, ℕ, ◌+◌, ◌&&◌, cond, List, [], ◌∷◌, map, length, codes, Result, Ok, Err}
use Rattle.mcs_system.specs.Plain.{System}
use Rattle.mcs_spelling.specs.Lines.{is_empty}
use Rattle.mcs_proof_text.specs.Answers.{Answer, answer_lines}
use Rattle.mcs_proof_text.specs.Reports.{SpellsReport, IsFirstLineFault, report_lines}
use Rattle.mcs_proof_lines.specs.Walks.{At, ◌>>=◌, fault_at, expect_at}
use Rattle.mcs_proof_lines.specs.declared.fault.ReportFault.{ReportFault}
use Rattle.mcs_proof_lines.specs.declared.fault.ReportFault.TheVariants as faults
use Rattle.mcs_proof_reader.specs.Readers.{answer_in_report}
use Rattle.mcs_proof_reader.specs.declared.report.Report as code

-- the last line, and nothing after it
abbrev pub at_last : At → Result At ℕ
at_last at = cond (is_empty at.rest && is_empty at.tail) (Ok at) (fault_at at)

abbrev pub end_at : At → Result At ℕ
end_at at = expect_at (codes "end of proof") at >>= at_last

-- ---- a report that was read
abbrev pub listing_of : code.Report → List (List ℕ)
listing_of r = map (λ l. l.items) r.listing.items

abbrev pub answers_in : code.Report → List Answer
answers_in r = map answer_in_report r.answers.items

-- the number of the first line of each answer, where the first one begins at this line
abbrev pub first_lines_from : System → ℕ → List Answer → List ℕ
first_lines_from m n [] = []
first_lines_from m n (a ∷ as') = n ∷ first_lines_from m (n + length (answer_lines m a)) as'

-- the bytes spell it; where each answer begins, after the listing and the line that separates them; the number of the last line
pub record IsReportOf (m : System) (bytes : List ℕ) (r : code.Report) : Type 0 where
  pub spelled : SpellsReport m bytes (listing_of r) (answers_in r)
  pub begins : map (λ a. a.line) r.answers.items ≡ first_lines_from m (length r.listing.items + 2) (answers_in r)
  pub ends : r.last_line ≡ length (report_lines m (listing_of r) (answers_in r))

-- the bytes spell the report; or the line is the first that is out of place
abbrev pub IsReportRead : System → List ℕ → Result code.Report ReportFault → Type 0
IsReportRead m bytes (Ok r) = IsReportOf m bytes r
IsReportRead m bytes (Err (faults.Grammar line)) = IsFirstLineFault m bytes line
IsReportRead m bytes (Err faults.Memory) = Unit {0}
