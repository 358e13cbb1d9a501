-- Facts that have at most one proof, as a fact that a struct keeps must.
use Rattle.std.specs.Prelude.{Bool, true, IsTrue, List, [], ◌∷◌}
use Rattle.std.specs.List.{AllZip}
use Rattle.std.specs.Coded.{Coded-set, coded_bool, ×_prop, Unit-prop}

pub IsTrue-prop : (b : Bool) → IsProp (IsTrue b)
IsTrue-prop b = Coded-set coded_bool b true

pub AllZip-prop : {A B : Type 0} (R : A → B → Type 0) → ((x : A) (y : B) → IsProp (R x y)) → (xs : List A) (ys : List B) → IsProp (AllZip R xs ys)
AllZip-prop R p [] [] = Unit-prop
AllZip-prop R p [] (y ∷ ys) = λ a b. absurd a
AllZip-prop R p (x ∷ xs) [] = λ a b. absurd a
AllZip-prop R p (x ∷ xs) (y ∷ ys) = ×_prop (p x y) (AllZip-prop R p xs ys)
