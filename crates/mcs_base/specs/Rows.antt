-- Rows that lie one after the other in one list, each given by where it ends.
use Rattle.std.specs.Prelude.{◌≡◌, ℕ, ◌-◌, ◌≤◌, List, [], ◌∷◌, take, drop}

-- the rows of the items that begin at the start, by the places where they end
abbrev pub rows_from : {A : Type 0} → ℕ → List A → List ℕ → List (List A)
rows_from start items [] = []
rows_from start items (end ∷ ends) = take (end - start) items ∷ rows_from end (drop (end - start) items) ends

-- the ends ascend from the start, and the last one is the total
abbrev pub AreEnds : ℕ → ℕ → List ℕ → Type 0
AreEnds start total [] = start ≡ total
AreEnds start total (end ∷ ends) = (start ≤ end) × AreEnds end total ends
