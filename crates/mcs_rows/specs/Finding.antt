-- Finding the answer to a question among answers to ascending ones.
use Rattle.std.specs.Prelude.{◌≡◌, ℕ, ◌<◌, Bool, true, false, List, map}
use Rattle.std.specs.List.Sorted.{IsPartitionPoint}
use Rattle.std.specs.Ordering.{is_lt, nat_cmp}
use Rattle.mcs_base.specs.Listings.{IsAmong, IsAscending}
use Rattle.mcs_rows.specs.declared.answer.Answer.{Answer}

-- what was asked
abbrev pub asked_in : List Answer → List ℕ
asked_in answers = map (λ (a : Answer). a.active) answers

-- the questions ascend, so that none stands twice
abbrev pub AreAscendingQuestions : List Answer → Type 0
AreAscendingQuestions answers = IsAscending (λ (a b : ℕ). a < b) (asked_in answers)

-- the answer's question is less than x
abbrev pub is_question_before : ℕ → Answer → Bool
is_question_before x a = is_lt (nat_cmp a.active x)

-- so many of the answers, and no more, are to questions before x
abbrev pub QuestionsEndAt : ℕ → List Answer → ℕ → Type 0
QuestionsEndAt x answers n = IsPartitionPoint (λ a. is_question_before x a ≡ true) (λ a. is_question_before x a ≡ false) answers n

-- a is the one answer to x
pub record IsAnswerTo (answers : List Answer) (x : ℕ) (a : Answer) : Type 0 where
  pub among : IsAmong a answers
  pub active : a.active ≡ x
  pub one : (b : Answer) → IsAmong b answers → b.active ≡ x → b ≡ a
