-- What a listing is: exactly the values for which something holds, each once, in an order.
use Rattle.std.specs.Prelude.{◌≡◌, Bool, not, List, [], ◌∷◌, filter, ◌⊎◌, ◌↔◌}
use Rattle.std.specs.List.{AllByRecursion}

-- strictly ascending: each comes before all later ones
abbrev pub IsAscending : {A : Type 0} → (A → A → Type 0) → List A → Type 0
IsAscending before [] = Unit {0}
IsAscending before (x ∷ xs) = AllByRecursion (before x) xs × IsAscending before xs

abbrev pub IsAmong : {A : Type 0} → A → List A → Type 0
IsAmong x [] = ⊥
IsAmong x (y ∷ ys) = (x ≡ y) ⊎ IsAmong x ys

-- the list has exactly the values for which P holds, each once, strictly ascending
pub record IsListing {A : Type 0} (P : A → Type 0) (before : A → A → Type 0) (xs : List A) : Type 0 where
  pub exactly : (x : A) → IsAmong x xs ↔ P x
  pub ascending : IsAscending before xs

-- no value stands twice
abbrev pub AreApart : {A : Type 0} → List A → Type 0
AreApart [] = Unit {0}
AreApart (x ∷ xs) = (¬ IsAmong x xs) × AreApart xs

-- the list has exactly the values for which P holds, each once, in any order
pub record IsInventory {A : Type 0} (P : A → Type 0) (xs : List A) : Type 0 where
  pub exactly : (x : A) → IsAmong x xs ↔ P x
  pub apart : AreApart xs

-- each value where it occurs first, `same` telling which values are one
abbrev pub firsts : {A : Type 0} → (A → A → Bool) → List A → List A
firsts same [] = []
firsts same (x ∷ xs) = x ∷ filter (λ y. not (same x y)) (firsts same xs)
