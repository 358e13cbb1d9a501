-- The notions of a level, by the one import order that a system has: questions, supplies, rows and counts.
use Rattle.std.specs.Prelude.{◌≡◌, ℕ, ◌<◌, ◌≤◌, ◌^◌, List, length, Some, slice_get, ◌⊎◌}
use Rattle.std.specs.List.{range_with_len, sum_by}
use Rattle.mcs_sets.specs.Sets.{size}
use Rattle.mcs_base.specs.Listings.{IsAmong, AreApart, IsListing}
use Rattle.mcs_system.specs.Plain.{System}
use Rattle.mcs_system.specs.Systems.{IsConsistent}
use Rattle.mcs_system.specs.Imports.{IsImportOrder, IsQuestion, IsPossible, rules_into}
use Rattle.mcs_system.specs.Rows.{IsRow}

-- the set x of rules is a question of the level to context i
abbrev pub IsQuestionAt : System → ℕ → ℕ → ℕ → Type 0
IsQuestionAt m level i x = (order : List ℕ) × IsImportOrder m order × IsQuestion m order level i x

-- context j may supply τ at the level
abbrev pub MaySupply : System → ℕ → ℕ → ℕ → Type 0
MaySupply m level j τ = (order : List ℕ) × IsImportOrder m order × IsPossible m order level j τ

-- context i has this row at the level
abbrev pub IsLocalRow : System → ℕ → ℕ → ℕ → ℕ → Type 0
IsLocalRow m level i state marks = (order : List ℕ) × IsImportOrder m order × IsRow m order level i state marks

-- ---- how many questions there are
-- for each context the listing of its questions
pub record AreQuestions (m : System) (level : ℕ) (lists : List (List ℕ)) : Type 0 where
  pub one_each : length lists ≡ length m.contexts
  pub listed : (i : ℕ) (xs : List ℕ) → slice_get lists i ≡ Some xs → IsListing (IsQuestionAt m level i) (λ a b. a < b) xs

-- n is the number of all questions of the level
abbrev pub IsCount : System → ℕ → ℕ → Type 0
IsCount m level n = (lists : List (List ℕ)) × AreQuestions m level lists × (n ≡ sum_by (λ (xs : List ℕ). length xs) lists)

-- some questions of the level to context i, each once
pub record AreSomeQuestions (m : System) (level i : ℕ) (xs : List ℕ) : Type 0 where
  pub questions : (x : ℕ) → IsAmong x xs → IsQuestionAt m level i x
  pub apart : AreApart xs

-- there are at least n questions of the level
pub record HasQuestions (m : System) (level n : ℕ) : Type 0 where
  pub lists : List (List ℕ)
  pub one_each : length lists ≡ length m.contexts
  pub some : (i : ℕ) (xs : List ℕ) → slice_get lists i ≡ Some xs → AreSomeQuestions m level i xs
  pub many : n ≤ sum_by (λ (xs : List ℕ). length xs) lists

-- the number of questions that the system needs: those of level 0 where it is consistent, else those of the level that is the number of its rules
abbrev pub IsNeed : System → ℕ → Type 0
IsNeed m n = (IsConsistent m × IsCount m 0 n) ⊎ ((¬ IsConsistent m) × IsCount m (length m.bridges) n)

-- the sets of rules into the contexts: 2 to the number of rules, for each
abbrev pub rule_set_count : System → ℕ
rule_set_count m = sum_by (λ i. 2 ^ size (rules_into m i)) (range_with_len 0 (length m.contexts))
