-- Groups: the k-th of a list belongs to group k modulo the number of groups.
use Rattle.std.specs.Prelude.{◌≡◌, ℕ, zero, suc, ◌+◌, ◌%◌, nat_eq, cond, List, [], ◌∷◌, ◌++◌, length, map, replicate}

-- x is added at the end of group g
abbrev pub added_to : {A : Type 0} → ℕ → A → List (List A) → List (List A)
added_to g x [] = []
added_to zero x (group ∷ groups) = (group ++ x ∷ []) ∷ groups
added_to (suc g) x (group ∷ groups) = group ∷ added_to g x groups

-- the list, whose first has the number k, in so many groups, each from its last member to its first
abbrev pub grouped : {A : Type 0} → ℕ → ℕ → List A → List (List A)
grouped groups k [] = replicate groups []
grouped groups k (x ∷ xs) = added_to (k % groups) x (grouped groups (k + 1) xs)

-- the members of group g, in order
abbrev pub members : {A : Type 0} → ℕ → ℕ → ℕ → List A → List A
members groups g k [] = []
members groups g k (x ∷ xs) = cond (nat_eq (k % groups) g) (x ∷ members groups g (k + 1) xs) (members groups g (k + 1) xs)

-- groups with as many members
abbrev pub AreShapedAs : {A : Type 0} → List (List A) → List (List A) → Type 0
AreShapedAs {A} groups others = map (λ (group : List A). length group) groups ≡ map (λ (group : List A). length group) others
