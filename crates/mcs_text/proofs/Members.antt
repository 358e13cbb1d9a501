-- Members that are written one after the other.
use Rattle.std.proofs.Common.{◌≡◌, ℕ, Bool, true, false, cond, List, [], ◌∷◌, ◌++◌, codes, refl, ap, ◌∙◌, append_assoc}
use Rattle.std.proofs.lemmas.List.{append-nil}
use Rattle.mcs_text.specs.Separated.{further, separated}

-- what is still to be written, before the first member and after it
abbrev pub left : Bool → List (List ℕ) → List ℕ
left true texts = separated texts
left false texts = further texts

pub left-none : (b : Bool) → left b [] ≡ []
left-none true = refl
left-none false = refl

-- one member more
pub left-step : (b : Bool) (old t : List ℕ) (ts : List (List ℕ)) → ((old ++ cond b [] (codes ", ")) ++ t) ++ left false ts ≡ old ++ left b (t ∷ ts)
left-step true old t ts = ap (λ xs. (xs ++ t) ++ further ts) (append-nil old) ∙ append_assoc old t (further ts)
left-step false old t ts = append_assoc (old ++ codes ", ") t (further ts) ∙ append_assoc old (codes ", ") (t ++ further ts)
