-- The lines of bytes.
use Rattle.std.specs.Prelude.{ℕ, nat_eq, Bool, true, false, cond, List, [], ◌∷◌}

abbrev pub is_empty : {A : Type 0} → List A → Bool
is_empty [] = true
is_empty (x ∷ xs) = false

abbrev pub line_onto : ℕ → List (List ℕ) → List (List ℕ)
line_onto b [] = []
line_onto b (line ∷ lines) = (b ∷ line) ∷ lines

abbrev pub complete_lines : List ℕ → List (List ℕ)
complete_lines [] = []
complete_lines (b ∷ bytes) = cond (nat_eq b 10) ([] ∷ complete_lines bytes) (line_onto b (complete_lines bytes))

-- what follows the last line feed
abbrev pub incomplete : List ℕ → List ℕ
incomplete [] = []
incomplete (b ∷ bytes) = cond (nat_eq b 10) (incomplete bytes) (cond (is_empty (complete_lines bytes)) (b ∷ bytes) (incomplete bytes))
