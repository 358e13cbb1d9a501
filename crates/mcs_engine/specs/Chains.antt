-- The chains of the clauses of a store, of which only those of clauses that were learnt are kept, each with the index of its clause.
use Rattle.std.specs.Prelude.{◌≢◌, ℕ, ◌+◌, ◌-◌, ◌<◌, ◌≤◌, List, [], ◌∷◌, ◌++◌, length, get_or, replicate}

-- the chains of the clauses from the one index to the other: the rows at the learnt ones, and empty ones at the others
abbrev pub spread : ℕ → ℕ → List ℕ → List (List ℕ) → List (List ℕ)
spread from count [] rows = replicate (count - from) []
spread from count (i ∷ learnt) [] = replicate (count - from) []
spread from count (i ∷ learnt) (row ∷ rows) = replicate (i - from) [] ++ row ∷ spread (i + 1) count learnt rows

-- the learnt ones ascend from the one index to the other, and each has a row, which is not empty
abbrev pub AreLearnt : ℕ → ℕ → List ℕ → List (List ℕ) → Type 0
AreLearnt from count [] [] = from ≤ count
AreLearnt from count [] (row ∷ rows) = ⊥
AreLearnt from count (i ∷ learnt) [] = ⊥
AreLearnt from count (i ∷ learnt) (row ∷ rows) = (from ≤ i) × (row ≢ []) × AreLearnt (i + 1) count learnt rows

-- the numbers ascend, each by one at least
abbrev pub AreSpaced : List ℕ → Type 0
AreSpaced xs = (i j : ℕ) → i ≤ j → j < length xs → get_or xs i 0 + (j - i) ≤ get_or xs j 0

-- the numbers before the place are below the bound, and no others
pub record IsCut (xs : List ℕ) (place bound : ℕ) : Type 0 where
  pub within : place ≤ length xs
  pub before : (j : ℕ) → j < place → get_or xs j 0 < bound
  pub after : (j : ℕ) → place ≤ j → j < length xs → bound ≤ get_or xs j 0
