-- The least of some numbers.
use Rattle.std.specs.Prelude.{◌≡◌, ℕ, ◌≤◌, List, [], Option, Some, None}
use Rattle.std.specs.List.{AllByRecursion}
use Rattle.mcs_base.specs.Listings.{IsAmong}

-- the least of some numbers; of none there is none
abbrev pub IsLeastOf : List ℕ → Option ℕ → Type 0
IsLeastOf numbers None = numbers ≡ []
IsLeastOf numbers (Some n) = IsAmong n numbers × AllByRecursion (λ k. n ≤ k) numbers
