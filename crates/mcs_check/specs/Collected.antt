-- What a sink that keeps its bytes holds, and how far two texts are the same.
use Rattle.std.specs.Prelude.{◌≡◌, ℕ, ◌+◌, nat_eq, cond, List, [], ◌∷◌, count_by}

pub record Collected : Type 0 where
  pub text : List ℕ
  pub faults : ℕ

-- how many bytes of the two are the same, from the first one on
abbrev pub common : List ℕ → List ℕ → ℕ
common [] ys = 0
common (x ∷ xs) [] = 0
common (x ∷ xs) (y ∷ ys) = cond (nat_eq x y) (common xs ys + 1) 0

-- how many of the bytes are the next ones that are expected; none where other bytes were written in their place
abbrev pub met : List ℕ → List ℕ → List ℕ → ℕ
met expected [] bytes = common expected bytes
met expected (y ∷ ys) bytes = 0

-- the first bytes of the two, if there are any, differ
abbrev pub PartFrom : List ℕ → List ℕ → Type 0
PartFrom xs [] = Unit {0}
PartFrom [] (y ∷ ys) = Unit {0}
PartFrom (x ∷ xs) (y ∷ ys) = ¬ (x ≡ y)

-- how many of the bytes are line feeds
abbrev pub feeds : List ℕ → ℕ
feeds bytes = count_by (λ b. nat_eq b 10) bytes
