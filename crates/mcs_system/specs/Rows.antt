-- The rows of a context: what it accepts on its local variables, with the marks that this takes.
use Rattle.std.specs.Prelude.{◌≡◌, ℕ, ◌≤◌, nat_eq, Bool, false, ◌&&◌, IsTrue, List, ◌++◌, length, slice_get, Option, Some, None}
use Rattle.std.specs.List.{list_any}
use Rattle.mcs_sets.specs.Sets.{common, union, such_that, size, Within}
use Rattle.mcs_system.specs.Plain.{Read, Bridge, System}
use Rattle.mcs_system.specs.Systems.{same_read, variables, variables_of, all_variables, IsAcceptedPart}
use Rattle.mcs_system.specs.Repairs.{allowed_marks}
use Rattle.mcs_base.specs.Listings.{IsAmong}
use Rattle.mcs_system.specs.Imports.{imports, before_in, rules_into, marks_at, IsPossible}

-- some rule into i reads r
abbrev pub is_read_into : System → ℕ → Option Read → Bool
is_read_into m i None = false
is_read_into m i (Some r) = list_any (λ (b : Bridge). nat_eq b.target i && list_any (λ (q : Read). same_read r q) (b.pos ++ b.neg)) m.bridges

-- the variables that rules into i read
unfoldable pub inputs_of : System → ℕ → ℕ
inputs_of m i = such_that (length (variables m)) (λ v. is_read_into m i (slice_get (variables m) v))

-- the local variables of i
abbrev pub local_of : System → ℕ → ℕ
local_of m i = union (variables_of m i) (inputs_of m i)

pub record IsRow (m : System) (order : List ℕ) (level i state marks : ℕ) : Type 0 where
  pub whole : ℕ
  pub of_variables : Within whole (all_variables m)
  pub rules : ℕ
  pub of_rules : Within rules (rules_into m i)
  pub accepted : IsAcceptedPart m i rules (common whole (variables_of m i))
  pub supplies : (j : ℕ) → IsAmong j (before_in order i) → IsTrue (imports m i j) → IsPossible m order level j (common whole (variables_of m j))
  pub state_is : common whole (local_of m i) ≡ state
  pub marks_is : marks_at m i whole rules ≡ marks
  pub allowed : Within marks (allowed_marks m)
  pub few : size marks ≤ level

-- each row's state agrees with each other's on what is local to both
abbrev pub AgreeOnCommon : System → List (ℕ × ℕ) → Type 0
AgreeOnCommon m rows = (i j : ℕ) (p q : ℕ × ℕ) → slice_get rows i ≡ Some p → slice_get rows j ≡ Some q → common p.0 (local_of m j) ≡ common q.0 (local_of m i)

-- σ and the rules of x, as each context shows them, are the rows
abbrev pub HasParts : System → ℕ → ℕ → List (ℕ × ℕ) → Type 0
HasParts m σ x rows = (i : ℕ) (p : ℕ × ℕ) → slice_get rows i ≡ Some p → (common σ (local_of m i) ≡ p.0) × (marks_at m i σ (common x (rules_into m i)) ≡ p.1)
