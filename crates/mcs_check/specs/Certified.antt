-- What an oracle with accepted answers holds and stands for.
use Rattle.std.specs.Prelude.{◌≡◌, ℕ, ◌<◌, Bool, true, false, List, [], map, Some, Vec, slice_get}
use Rattle.std.specs.List.{AllByRecursion}
use Rattle.std.specs.declared.alloc.Global.{Global}
use Rattle.std.specs.List.Sorted.{IsPartitionPoint}
use Rattle.std.specs.Ordering.{is_lt, nat_cmp}
use Rattle.mcs_sets.specs.Orders.{StateBefore}
use Rattle.mcs_base.specs.Listings.{IsListing, IsAscending}
use Rattle.mcs_system.specs.Plain.{System}
use Rattle.mcs_system.specs.Systems.{IsAcceptedPart}
use Rattle.mcs_states.specs.Oracles.{OracleState}

-- an oracle of this context of the system that can miss: it holds an answer for just these sets
abbrev pub certified_of : System → ℕ → List ℕ → List ℕ → OracleState
certified_of m i sets journal = record { system = m; context = i; journal = journal; holds = Some sets; origin = [] }

-- the sets of the answers
abbrev pub sets_of : {B : Type 0} → List (ℕ × B) → List ℕ
sets_of answers = map (λ a. a.0) answers

-- each answer is the listing of what the context accepts with the heads of the rules of its set
abbrev pub AreAcceptedAnswers : System → ℕ → List (ℕ × Vec ℕ Global) → Type 0
AreAcceptedAnswers m i answers = AllByRecursion (λ a. IsListing (IsAcceptedPart m i a.0) StateBefore a.1.items) answers

-- the sets ascend, so that none stands twice
abbrev pub AreAscendingSets : {B : Type 0} → List (ℕ × B) → Type 0
AreAscendingSets answers = IsAscending (λ a b. a < b) (sets_of answers)

-- ---- finding an answer
-- the set of the answer is less than this one
abbrev pub is_set_before : {B : Type 0} → ℕ → ℕ × B → Bool
is_set_before x a = is_lt (nat_cmp a.0 x)

-- so many of the answers, and no more, are for sets before this one
abbrev pub SetsEndAt : {B : Type 0} → ℕ → List (ℕ × B) → ℕ → Type 0
SetsEndAt x answers n = IsPartitionPoint (λ a. is_set_before x a ≡ true) (λ a. is_set_before x a ≡ false) answers n

-- these states are the answer for this set
abbrev pub HasAnswer : List (ℕ × Vec ℕ Global) → ℕ → List ℕ → Type 0
HasAnswer answers x states = (k : ℕ) × (a : ℕ × Vec ℕ Global) × (slice_get answers k ≡ Some a) × (a.0 ≡ x) × (a.1.items ≡ states)
