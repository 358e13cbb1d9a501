-- The answers of a report, judged.
use Rattle.std.specs.Prelude.{◌≡◌, ◌↔◌, ℕ, nat_eq, List, [], ◌∷◌, ◌++◌, map, filter, take, length, Some, Vec, slice_get, IsTrue}
use Rattle.std.specs.List.{AllByRecursion}
use Rattle.std.specs.declared.alloc.Global.{Global}
use Rattle.mcs_base.specs.Listings.{IsAscending}
use Rattle.mcs_spelling.specs.Lines.{complete_lines}
use Rattle.mcs_system.specs.Plain.{Kb, Context, System}
use Rattle.mcs_proof_text.specs.Answers.{Answer}
use Rattle.mcs_proof_text.specs.Proofs.{HasAcceptedCertificate}
use Rattle.mcs_proof_text.specs.Reports.{AnswerBefore}
use Rattle.mcs_proof_reader.specs.Keeping.{EachIsKept, IsKeptReport}
use Rattle.mcs_proof_reader.specs.declared.report.KeptReport as reports
use Rattle.mcs_check.specs.declared.judging.Judged as code
use Rattle.mcs_check.specs.Answers.{CheckedAnswer, answered}

-- it stands for this answer, which begins at this line
pub record IsAnswerJudged (m : System) (a : Answer) (line : ℕ) (j : code.Judged) : Type 0 where
  pub begins : j.line ≡ line
  pub context : j.context ≡ a.context
  pub active : j.active ≡ a.active
  pub outputs : j.outputs.items ≡ a.outputs
  pub right : IsTrue j.is_right ↔ HasAcceptedCertificate m a

-- the context has this knowledge base
pub record HasKb (m : System) (i : ℕ) (kb : Kb) : Type 0 where
  pub context : Context
  pub is_it : slice_get m.contexts i ≡ Some context
  pub kb_is : context.kb ≡ kb

-- they stand for these answers, the first of which begins at this line
abbrev pub AreJudged : System → ℕ → List Answer → List code.Judged → Type 0
AreJudged m n answers judged = EachIsKept IsAnswerJudged m n answers judged

-- it stands for the report that the bytes spell
abbrev pub IsJudgedReport : System → List ℕ → reports.KeptReport code.Judged → Type 0
IsJudgedReport m bytes r = IsKeptReport IsAnswerJudged m bytes (complete_lines r.listing.now) r.answers.items r.last_line

-- the first of them that is not right begins at this line
pub record IsFirstWrong (judged : List code.Judged) (line : ℕ) : Type 0 where
  pub number : ℕ
  pub answer : code.Judged
  pub is_it : slice_get judged number ≡ Some answer
  pub begins : answer.line ≡ line
  pub wrong : ¬ IsTrue answer.is_right
  pub before : AllByRecursion (λ j. IsTrue j.is_right) (take number judged)

-- they stand for right answers to different questions, in their order
pub record AreAllRight (m : System) (judged : List code.Judged) : Type 0 where
  pub first_line : ℕ
  pub answers : List Answer
  pub stand_for : AreJudged m first_line answers judged
  pub right : AllByRecursion (HasAcceptedCertificate m) answers
  pub ascending : IsAscending AnswerBefore answers

-- those to questions of one context
abbrev pub told : code.Judged → CheckedAnswer
told j = record { active = j.active; outputs = j.outputs.items }

abbrev pub judged_to : ℕ → List code.Judged → List CheckedAnswer
judged_to i judged = map told (filter (λ j. nat_eq j.context i) judged)

-- lists, one for each of so many contexts, that hold the answers to its questions
pub record AreSorted (n : ℕ) (judged : List code.Judged) (lists : List (Vec (ℕ × Vec ℕ Global) Global)) : Type 0 where
  pub many : length lists ≡ n
  pub own : (i : ℕ) (own : Vec (ℕ × Vec ℕ Global) Global) → slice_get lists i ≡ Some own → map answered own.items ≡ judged_to i judged

-- where the old lists hold answers, the new ones hold these and one more
abbrev pub HoldOneMore : code.Judged → List (Vec (ℕ × Vec ℕ Global) Global) → List (Vec (ℕ × Vec ℕ Global) Global) → Type 0
HoldOneMore answer old new = (n : ℕ) (before : List code.Judged) → AreSorted n before old → AreSorted n (before ++ answer ∷ []) new
