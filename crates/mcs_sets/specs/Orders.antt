-- The orders in which sets are listed: states, and pairs of sets of rules as sets of marks.
use Rattle.std.specs.Prelude.{◌≡◌, ℕ, ◌<◌, false, IsTrue, List, [], ◌∷◌, ◌⊎◌}
use Rattle.mcs_sets.specs.Sets.{has, members, size}

-- of two different sets, the one that holds the least number in which they differ comes first
pub record StateBefore (a b : ℕ) : Type 0 where
  pub at : ℕ
  pub in_first : IsTrue (has a at)
  pub not_in_second : has b at ≡ false
  pub same_below : (j : ℕ) → j < at → has a j ≡ has b j

-- lexicographically less
abbrev pub LexLess : List ℕ → List ℕ → Type 0
LexLess xs [] = ⊥
LexLess [] (y ∷ ys) = Unit {0}
LexLess (x ∷ xs) (y ∷ ys) = (x < y) ⊎ ((x ≡ y) × LexLess xs ys)

-- fewer members first; with equally many, the one whose ascending list is lexicographically less
abbrev pub PairBefore : ℕ → ℕ → Type 0
PairBefore a b = (size a < size b) ⊎ ((size a ≡ size b) × LexLess (members a) (members b))
