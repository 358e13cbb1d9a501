-- Tests and lists.
use Rattle.std.proofs.Common.{◌≡◌, Bool, true, false, not, ◌&&◌, ◌||◌, ◌⊎◌, inl, inr, refl, sym, ap, true≢false}
use Rattle.std.proofs.lemmas.Bool.{and_from}

pub or-cases : (x y : Bool) → (x || y) ≡ true → (x ≡ true) ⊎ (y ≡ true)
or-cases true y e = inl refl
or-cases false y e = inr e

pub and-parts : (x y : Bool) → (x && y) ≡ true → (x ≡ true) × (y ≡ true)
and-parts true y e = (refl, e)
and-parts false y e = absurd (true≢false (sym e))

pub not-both : (x y : Bool) → not (x && y) ≡ true → x ≡ true → y ≡ true → ⊥
not-both true true e a b = true≢false (sym e)
not-both false y e a b = true≢false (sym a)
not-both true false e a b = true≢false (sym b)

pub not-one : (x : Bool) → not x ≡ true → x ≡ true → ⊥
not-one true e a = true≢false (sym e)
not-one false e a = true≢false (sym a)

pub left-or : (x y : Bool) → x ≡ true → (x || y) ≡ true
left-or x y e = ap (λ t. t || y) e

pub right-or : (x y : Bool) → y ≡ true → (x || y) ≡ true
right-or true y e = refl
right-or false y e = e

pub both-and : (x y : Bool) → x ≡ true → y ≡ true → (x && y) ≡ true
both-and x y = and_from x y

pub not-true : (x : Bool) → not x ≡ true → x ≡ false
not-true true e = sym e
not-true false e = refl

pub not-false : (x : Bool) → not x ≡ false → x ≡ true
not-false true e = refl
not-false false e = sym e
