-- A table of the fewest changes that make each set of some rules.
use Rattle.std.specs.Prelude.{◌≡◌, ℕ, ◌+◌, ◌^◌, ◌<◌, ◌≤◌, Bool, cond, ◌&&◌, nat_lt, nat_le, zero, suc, IsTrue, List, [], ◌∷◌, ◌++◌, length, get_or, ◌↔◌}
use Rattle.mcs_sets.specs.Sets.{has, union, minus, single}
use Rattle.mcs_base.specs.Listings.{IsAmong, IsListing}

-- all sets of the rules: the set at a place has the j-th rule where the place has j
pub record AreSetsOf (rules all : List ℕ) : Type 0 where
  pub long : length all ≡ 2 ^ length rules
  pub listing : IsListing (λ x. (k : ℕ) → IsTrue (has x k) → IsAmong k rules) (λ a b. a < b) all
  pub bits : (p j : ℕ) → p < length all → j < length rules → has (get_or all p 0) (get_or rules j 0) ≡ has p j

-- the set with the number changed: without it where it has it, else with it
abbrev pub toggled : ℕ → ℕ → ℕ
toggled s k = cond (has s k) (minus s (single k)) (union s (single k))

-- at each place the fewest changes tell how near the set there is; 255 stands for none that make it
pub record IsTable (Near : ℕ → ℕ → Type 0) (all fewest : List ℕ) : Type 0 where
  pub long : length fewest ≡ length all
  pub tells : (p m : ℕ) → p < length all → m < 255 → (get_or fewest p 0 ≤ m) ↔ Near m (get_or all p 0)

-- a change more than at the other place, where that is allowed and fewer
abbrev pub fewest_with : Bool → ℕ → ℕ → ℕ
fewest_with may here there = cond (nat_lt there here && may) (there + 1) here

-- the fewest changes at a place, where the one bit of it may be changed too: set where that is forced, and not where it is removed
abbrev pub fewest_at : List ℕ → ℕ → Bool → Bool → ℕ → ℕ
fewest_at fewest bit removable forcible p = fewest_with (cond (has p bit) forcible removable) (get_or fewest p 0) (get_or fewest (toggled p bit) 0)

-- so many values of a function, from that of 0 on
pub record AreTaken (f : ℕ → ℕ) (count : ℕ) (xs : List ℕ) : Type 0 where
  pub long : length xs ≡ count
  pub each : (p : ℕ) → p < count → get_or xs p 0 ≡ f p

-- of the first so many sets those that few enough changes make
abbrev pub picked : List ℕ → List ℕ → ℕ → ℕ → List ℕ
picked all fewest most zero = []
picked all fewest most (suc i) = cond (nat_le (get_or fewest i 0) most) (picked all fewest most i ++ get_or all i 0 ∷ []) (picked all fewest most i)
