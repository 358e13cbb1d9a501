-- How many of a list pass a test, where another test passes fewer.
use Rattle.std.proofs.Common.{◌≡◌, ◌<◌, ◌≤◌, Bool, true, false, cond, List, [], ◌∷◌, filter, length, inl, inr, refl, sym, ap, ◌∙◌, arith, true≢false}
use Rattle.mcs_base.specs.Listings.{IsAmong}

module _ {A : Type 0} (p q : A → Bool) (weaker : (x : A) → q x ≡ true → p x ≡ true) where
  pub filter_le : (xs : List A) → length (filter q xs) ≤ length (filter p xs)
  filter_le [] = omega arith
  filter_le (x ∷ xs) = at (q x) (p x) (λ e. weaker x e) (filter_le xs)
    where
      at : (u v : Bool) → (u ≡ true → v ≡ true) → length (filter q xs) ≤ length (filter p xs) → length (cond u (x ∷ filter q xs) (filter q xs)) ≤ length (cond v (x ∷ filter p xs) (filter p xs))
      at true true implies rest = omega (arith, rest)
      at true false implies rest = absurd (true≢false (sym (implies refl)))
      at false true implies rest = omega (arith, rest)
      at false false implies rest = rest

  -- one that passes the first test alone makes the difference
  pub filter_lt : (xs : List A) (y : A) → IsAmong y xs → p y ≡ true → q y ≡ false → length (filter q xs) < length (filter p xs)
  filter_lt [] y among passes fails = absurd among
  filter_lt (x ∷ xs) y (inl same) passes fails = at (q x) (p x) (ap q (sym same) ∙ fails) (ap p (sym same) ∙ passes) (filter_le xs)
    where
      at : (u v : Bool) → u ≡ false → v ≡ true → length (filter q xs) ≤ length (filter p xs) → length (cond u (x ∷ filter q xs) (filter q xs)) < length (cond v (x ∷ filter p xs) (filter p xs))
      at true v e e' rest = absurd (true≢false e)
      at false true e e' rest = omega (arith, rest)
      at false false e e' rest = absurd (true≢false (sym e'))
  filter_lt (x ∷ xs) y (inr later) passes fails = at (q x) (p x) (λ e. weaker x e) (filter_lt xs y later passes fails)
    where
      at : (u v : Bool) → (u ≡ true → v ≡ true) → length (filter q xs) < length (filter p xs) → length (cond u (x ∷ filter q xs) (filter q xs)) < length (cond v (x ∷ filter p xs) (filter p xs))
      at true true implies rest = omega (arith, rest)
      at true false implies rest = absurd (true≢false (sym (implies refl)))
      at false true implies rest = omega (arith, rest)
      at false false implies rest = rest
