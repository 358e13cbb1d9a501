-- A whole report: a listing, then answers with their certificates.
use Rattle.std.specs.Prelude.{◌≡◌, ℕ, nat_eq, Bool, true, not, ◌&&◌, ◌+◌, ◌-◌, ◌<◌, ◌≤◌, List, [], ◌∷◌, ◌++◌, length, take, codes, ◌⊎◌}
use Rattle.std.specs.List.{AllByRecursion, flat_map}
use Rattle.mcs_base.specs.Listings.{IsAscending}
use Rattle.mcs_system.specs.Plain.{System}
use Rattle.mcs_system.specs.Naming.{IsSystemNamed}
use Rattle.mcs_report.specs.Solutions.{IsWholeListing}
use Rattle.mcs_spelling.specs.Lines.{complete_lines}
use Rattle.mcs_proof_text.specs.Lines.{text_of_lines}
use Rattle.mcs_proof_text.specs.Answers.{Answer, answer_lines}
use Rattle.mcs_proof_text.specs.Answers.{IsInShape}

-- ---- the listing part
abbrev pub IsLineFeedFree : List ℕ → Type 0
IsLineFeedFree line = AllByRecursion (λ b. ¬ (b ≡ 10)) line

-- the same by a test
abbrev pub feedless : List ℕ → Bool
feedless [] = true
feedless (b ∷ bytes) = not (nat_eq b 10) && feedless bytes

-- the line that ends it
abbrev pub IsEndLine : List ℕ → Type 0
IsEndLine line = (rest : List ℕ) × (line ≡ codes "end: " ++ rest)

-- lines without line feeds, of which only the last one begins so
abbrev pub IsListingPart : List (List ℕ) → Type 0
IsListingPart [] = ⊥
IsListingPart (line ∷ lines) = IsLineFeedFree line × ((IsEndLine line × (lines ≡ [])) ⊎ ((¬ IsEndLine line) × IsListingPart lines))

-- ---- reports
-- the most bytes of one that is read
abbrev pub most_report_bytes : ℕ
most_report_bytes = 268435456

-- by context, and then by rule set
abbrev pub AnswerBefore : Answer → Answer → Type 0
AnswerBefore a b = (a.context < b.context) ⊎ ((a.context ≡ b.context) × (a.active < b.active))

abbrev pub report_lines : System → List (List ℕ) → List Answer → List (List ℕ)
report_lines m listing answers = listing ++ codes "proof" ∷ (flat_map (answer_lines m) answers ++ codes "end of proof" ∷ [])

-- a listing part, and answers in shape and in order
pub record IsReport (m : System) (listing : List (List ℕ)) (answers : List Answer) : Type 0 where
  pub listing_part : IsListingPart listing
  pub shapes : AllByRecursion (IsInShape m) answers
  pub ascending : IsAscending AnswerBefore answers

-- the bytes are its lines, each with its line feed
pub record SpellsReport (m : System) (bytes : List ℕ) (listing : List (List ℕ)) (answers : List Answer) : Type 0 where
  pub report : IsReport m listing answers
  pub text_is : bytes ≡ text_of_lines (report_lines m listing answers)

-- ---- faults
-- the lines are a front of those of a report
pub record BeginsReport (m : System) (lines : List (List ℕ)) : Type 0 where
  pub listing : List (List ℕ)
  pub answers : List Answer
  pub report : IsReport m listing answers
  pub rest : List (List ℕ)
  pub front : report_lines m listing answers ≡ lines ++ rest

-- the line of this number, counted from 1, is out of place, and is the first: those before it begin a report; with it they do not, or there is no such line that ends
pub record IsFirstLineFault (m : System) (bytes : List ℕ) (line : ℕ) : Type 0 where
  pub none : (listing : List (List ℕ)) (answers : List Answer) → ¬ SpellsReport m bytes listing answers
  pub from_one : 0 < line
  pub within : line ≤ length (complete_lines bytes) + 1
  pub before : BeginsReport m (take (line - 1) (complete_lines bytes))
  pub there : (line ≡ length (complete_lines bytes) + 1) ⊎ ¬ BeginsReport m (take line (complete_lines bytes))

-- ---- laws
-- the whole listing of a system whose names are names is the text of a listing part
abbrev pub WholeListingsAreListingParts : Type 0
WholeListingsAreListingParts = (m : System) (text : List ℕ) → IsSystemNamed m → IsWholeListing m text
    → (lines : List (List ℕ)) × IsListingPart lines × (text ≡ text_of_lines lines)

-- a text that spells a report has no fault
abbrev pub SpelledReportsHaveNoFault : Type 0
SpelledReportsHaveNoFault = (m : System) (bytes : List ℕ) (l : List (List ℕ)) (as' : List Answer) (line : ℕ) → SpellsReport m bytes l as' → ¬ IsFirstLineFault m bytes line

-- a text has one first fault at most
abbrev pub ReportsHaveOneFault : Type 0
ReportsHaveOneFault = (m : System) (bytes : List ℕ) (j k : ℕ) → IsFirstLineFault m bytes j → IsFirstLineFault m bytes k → j ≡ k
