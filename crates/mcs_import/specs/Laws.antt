-- Laws of import orders and of the number of questions: each is the contract of a function of `laws`.
use Rattle.std.specs.Prelude.{◌≡◌, ◌↔◌, ℕ, ◌≤◌, List, length, Some, slice_get}
use Rattle.std.specs.List.{sum_by}
use Rattle.mcs_base.specs.Listings.{IsInventory}
use Rattle.mcs_system.specs.Plain.{System}
use Rattle.mcs_system.specs.Imports.{IsImportOrder}
use Rattle.mcs_system.specs.Levels.{IsQuestionAt, HasQuestions, IsCount, IsNeed, rule_set_count}

-- no system has two import orders
abbrev pub ImportOrderIsOne : Type 0
ImportOrderIsOne = (m : System) (xs ys : List ℕ) → IsImportOrder m xs → IsImportOrder m ys → xs ≡ ys

-- each system has one
abbrev pub ImportOrderExists : Type 0
ImportOrderExists = (m : System) → (xs : List ℕ) × IsImportOrder m xs

-- there are no more questions than sets of rules into a context, over all contexts
abbrev pub QuestionsAreBounded : Type 0
QuestionsAreBounded = (m : System) (level n : ℕ) → HasQuestions m level n → n ≤ rule_set_count m

-- a higher level has no fewer questions
abbrev pub QuestionCountsGrow : Type 0
QuestionCountsGrow = (m : System) (level higher n : ℕ) → level ≤ higher → HasQuestions m level n → HasQuestions m higher n

-- there are at least as many questions as any number up to their count, and no more
abbrev pub CountsAgree : Type 0
CountsAgree = (m : System) (level n k : ℕ) → IsCount m level n → HasQuestions m level k ↔ k ≤ n

-- a level has one number of questions
abbrev pub CountIsOne : Type 0
CountIsOne = (m : System) (level n k : ℕ) → IsCount m level n → IsCount m level k → n ≡ k

-- journals that have just the questions of a level, each once, have their number
abbrev pub JournalsAreCounted : Type 0
JournalsAreCounted = (m : System) (level : ℕ) (journals : List (List ℕ)) → length journals ≡ length m.contexts
    → ((i : ℕ) (xs : List ℕ) → slice_get journals i ≡ Some xs → IsInventory (IsQuestionAt m level i) xs) → IsCount m level (sum_by (λ (xs : List ℕ). length xs) journals)

-- a higher level has no smaller number of questions
abbrev pub CountsGrow : Type 0
CountsGrow = (m : System) (level higher n k : ℕ) → level ≤ higher → IsCount m level n → IsCount m higher k → n ≤ k

-- a system has one need
abbrev pub NeedIsOne : Type 0
NeedIsOne = (m : System) (n k : ℕ) → IsNeed m n → IsNeed m k → n ≡ k
