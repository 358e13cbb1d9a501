-- Lists as texts: their members, with a comma and a space between them.
use Rattle.std.specs.Prelude.{ℕ, List, [], ◌∷◌, ◌++◌, codes}
use Rattle.std.specs.List.{flat_map}

-- after the first member
abbrev pub further : List (List ℕ) → List ℕ
further texts = flat_map (λ t. codes ", " ++ t) texts

-- members, separated
abbrev pub separated : List (List ℕ) → List ℕ
separated [] = []
separated (t ∷ ts) = t ++ further ts

-- the same between braces
abbrev pub braced : List (List ℕ) → List ℕ
braced texts = codes "{" ++ (separated texts ++ codes "}")
