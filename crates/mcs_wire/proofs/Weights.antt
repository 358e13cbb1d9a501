-- Sums over lists of which some places are known, and lists as bags.
use Rattle.std.proofs.Common.{◌≡◌, ◌≢◌, ℕ, zero, suc, ◌+◌, ◌≤◌, List, [], ◌∷◌, ◌++◌, length, set, refl, sym, ap, subst, ⊎_elim, arith}
use Rattle.std.proofs.lemmas.List.Sums.{sum_by-append, sum_by-cons}
use Rattle.std.specs.List.{sum_by}
use mathlib.Core.Option.{some, some-ne-none, some-injective}
use lib.ListN.{get_elem?}
use Rattle.atomic_table.proofs.Lists.{at_set}
use Rattle.mcs_base.proofs.Sums.{sum_by-ones}
use Rattle.mcs_wire.specs.Bags.{AreTogether}

module _ {A : Type 0} where
  -- ---- sums, of which one place or two are known
  -- after a change at one place
  pub sum_set : (f : A → ℕ) (xs : List A) (i : ℕ) (x y : A) → get_elem? xs i ≡ some x → sum_by f (set xs i y) + f x ≡ sum_by f xs + f y
  sum_set f [] i x y at = absurd (some-ne-none x (sym at))
  sum_set f (z ∷ xs) zero x y at = omega (arith, sum_by-cons f z xs, sum_by-cons f y xs, ap f (some-injective z x at))
  sum_set f (z ∷ xs) (suc i) x y at = omega (arith, sum_by-cons f z xs, sum_by-cons f z (set xs i y), sum_set f xs i x y at)

  -- one is at most the sum
  pub sum_at : (f : A → ℕ) (xs : List A) (i : ℕ) (x : A) → get_elem? xs i ≡ some x → f x ≤ sum_by f xs
  sum_at f [] i x at = absurd (some-ne-none x (sym at))
  sum_at f (z ∷ xs) zero x at = omega (arith, sum_by-cons f z xs, ap f (some-injective z x at))
  sum_at f (z ∷ xs) (suc i) x at = omega (arith, sum_by-cons f z xs, sum_at f xs i x at)

  -- two are at most the sum
  pub sum_two : (f : A → ℕ) (xs : List A) (i j : ℕ) (x y : A) → j ≢ i → get_elem? xs i ≡ some x → get_elem? xs j ≡ some y → f x + f y ≤ sum_by f xs
  sum_two f [] i j x y apart at at' = absurd (some-ne-none x (sym at))
  sum_two f (z ∷ xs) zero zero x y apart at at' = absurd (apart refl)
  sum_two f (z ∷ xs) zero (suc j) x y apart at at' = omega (arith, sum_by-cons f z xs, ap f (some-injective z x at), sum_at f xs j y at')
  sum_two f (z ∷ xs) (suc i) zero x y apart at at' = omega (arith, sum_by-cons f z xs, ap f (some-injective z y at'), sum_at f xs i x at)
  sum_two f (z ∷ xs) (suc i) (suc j) x y apart at at' = omega (arith, sum_by-cons f z xs, sum_two f xs i j x y (λ e. apart (ap suc e)) at at')

  -- what holds of the member at each place
  abbrev pub Each : (A → Type 0) → List A → Type 0
  Each F xs = (i : ℕ) (x : A) → get_elem? xs i ≡ some x → F x

  pub each_set : (F G : A → Type 0) (xs : List A) (i : ℕ) (y : A) → G y → ((x : A) → F x → G x) → Each F xs → Each G (set xs i y)
  each_set F G xs i y mine others each j x at = ⊎_elim (λ (h : (j ≡ i) × (y ≡ x)). subst G h.1 mine) (λ (h : (j ≢ i) × (get_elem? xs j ≡ some x)). others x (each j x h.1)) (at_set xs i j y x at)

  -- where f of each member without g is 0, and there is no g, there is no f
  pub sum_none : (f g : A → ℕ) (xs : List A) → Each (λ x. g x ≡ 0 → f x ≡ 0) xs → sum_by g xs ≡ 0 → sum_by f xs ≡ 0
  sum_none f g [] none e = refl
  sum_none f g (x ∷ xs) none e =
      let here : f x ≡ 0 = none 0 x refl (omega (arith, e, sum_by-cons g x xs)) in
      let rest = sum_none f g xs (λ j y at. none (suc j) y at) (omega (arith, e, sum_by-cons g x xs)) in
      omega (arith, here, rest, sum_by-cons f x xs)

  -- where f of each member without g is 0, and one has all of g, it has all of f
  pub sum_whole : (f g : A → ℕ) (xs : List A) (i : ℕ) (x : A) → Each (λ y. g y ≡ 0 → f y ≡ 0) xs → get_elem? xs i ≡ some x → sum_by g xs ≡ g x → sum_by f xs ≡ f x
  sum_whole f g [] i x none at e = absurd (some-ne-none x (sym at))
  sum_whole f g (z ∷ xs) zero x none at e =
      let same = some-injective z x at in
      let rest = sum_none f g xs (λ j y at'. none (suc j) y at') (omega (arith, e, ap g same, sum_by-cons g z xs)) in
      omega (arith, ap f same, rest, sum_by-cons f z xs)
  sum_whole f g (z ∷ xs) (suc i) x none at e =
      let below = sum_at g xs i x at in
      let here : f z ≡ 0 = none 0 z refl (omega (arith, e, below, sum_by-cons g z xs)) in
      let rest = sum_whole f g xs i x (λ j y at'. none (suc j) y at') at (omega (arith, e, below, sum_by-cons g z xs)) in
      omega (arith, here, rest, sum_by-cons f z xs)

  -- ---- bags
  pub lengths_together : (one other whole : List A) → AreTogether one other whole → length whole ≡ length one + length other
  lengths_together one other whole t = omega (arith, t (λ (x : A). 1), sum_by-ones whole, sum_by-ones one, sum_by-ones other)

  -- a list that is split at a place, and nothing besides
  pub parts_together : (xs ys zs whole : List A) → zs ≡ xs ++ ys → AreTogether zs [] whole → AreTogether xs ys whole
  parts_together xs ys zs whole is t weight = omega (arith, t weight, ap (sum_by weight) is, sum_by-append weight xs ys)
