-- Sums over lists of which one place changes, what a sum shows that is not 0, and lists that go together place by place.
use Rattle.std.proofs.Common.{◌≡◌, ℕ, zero, suc, ◌+◌, ◌*◌, ◌≤◌, nat_eq, Bool, true, false, List, [], ◌∷◌, length, map, Some, slice_get, slice_set, refl, sym, ap, ◌∙◌, subst, inl, inr, arith, ◌++◌}
use Rattle.std.proofs.lemmas.Bool.Decides.{nat_tests}
use Rattle.std.proofs.lemmas.List.Sums.{sum_by-cons}
use Rattle.std.proofs.lemmas.Option.{none-some, same_Some, slice_get_within}
use Rattle.std.specs.List.{AllByRecursion, AllZip, sum_by}
use Rattle.mcs_base.specs.Listings.{IsAmong}
use Rattle.mcs_base.proofs.Lists.{map_slice_get, slice_get-map_some, slice_get_push_at}
use Rattle.mcs_base.proofs.NumberCases.{cases_zero}

module _ {A : Type 0} (f : A → ℕ) where
  -- after a change at one place
  pub sum_set : (xs : List A) (p : ℕ) (x y : A) → slice_get xs p ≡ Some x → sum_by f (slice_set xs p y) + f x ≡ sum_by f xs + f y
  sum_set [] p x y at = absurd (none-some x at)
  sum_set (z ∷ xs) zero x y at = let e : f z ≡ f x = ap f (same_Some z x at) in omega (arith, e, sum_by-cons f z xs, sum_by-cons f y xs)
  sum_set (z ∷ xs) (suc p) x y at = omega (arith, sum_by-cons f z xs, sum_by-cons f z (slice_set xs p y), sum_set xs p x y at)

  -- one is at most the sum
  pub sum_among : (xs : List A) (x : A) → IsAmong x xs → f x ≤ sum_by f xs
  sum_among [] x none = absurd none
  sum_among (z ∷ xs) x (inl e) = let same : f x ≡ f z = ap f e in omega (arith, same, sum_by-cons f z xs)
  sum_among (z ∷ xs) x (inr later) = omega (arith, sum_by-cons f z xs, sum_among xs x later)

  -- where the sum is not 0, it is not 0 for one of them
  pub sum_some : (xs : List A) → 1 ≤ sum_by f xs → (x : A) × IsAmong x xs × (1 ≤ f x)
  sum_some [] some = absurd (omega (arith, some))
  sum_some (z ∷ xs) some = elim (cases_zero (f z)) [
    | inl none ↦ let (x, among, more) = sum_some xs (omega (arith, some, none, sum_by-cons f z xs)) in (x, inr among, more)
    | inr more ↦ (z, inl refl, omega (arith, more))
  ]

  -- where each is at most 4,096
  pub sum_few : (xs : List A) → ((x : A) → IsAmong x xs → f x ≤ 4096) → sum_by f xs ≤ 4096 * length xs
  sum_few [] few = omega arith
  sum_few (z ∷ xs) few = let here = few z (inl refl) in let rest = sum_few xs (λ x h. few x (inr h)) in omega (arith, here, rest, sum_by-cons f z xs)

  -- and one of them is 0
  pub sum_but : (xs : List A) (p : ℕ) (x : A) → slice_get xs p ≡ Some x → f x ≡ 0 → ((y : A) → IsAmong y xs → f y ≤ 4096) → sum_by f xs + 4096 ≤ 4096 * length xs
  sum_but [] p x at none few = absurd (none-some x at)
  sum_but (z ∷ xs) zero x at none few =
      let e : f z ≡ f x = ap f (same_Some z x at) in let rest = sum_few xs (λ y h. few y (inr h)) in omega (arith, e, none, rest, sum_by-cons f z xs)
  sum_but (z ∷ xs) (suc p) x at none few =
      let here = few z (inl refl) in let rest = sum_but xs p x at none (λ y h. few y (inr h)) in omega (arith, here, rest, sum_by-cons f z xs)

-- where each is at most 64
pub sum_short : {A : Type 0} (f : A → ℕ) (xs : List A) → ((x : A) → IsAmong x xs → f x ≤ 64) → sum_by f xs ≤ 64 * length xs
sum_short f [] few = omega arith
sum_short f (z ∷ xs) few = let here = few z (inl refl) in let rest = sum_short f xs (λ x h. few x (inr h)) in omega (arith, here, rest, sum_by-cons f z xs)

-- the sum of images
pub sum_map : {A B : Type 0} (f : B → ℕ) (g : A → B) (xs : List A) → sum_by f (map g xs) ≡ sum_by (λ x. f (g x)) xs
sum_map f g [] = refl
sum_map f g (x ∷ xs) = omega (arith, sum_by-cons f (g x) (map g xs), sum_by-cons (λ y. f (g y)) x xs, sum_map f g xs)

-- equal images, equal sums
pub sum_images : {A B : Type 0} (f : B → ℕ) (g : A → B) (xs ys : List A) → map g xs ≡ map g ys → sum_by (λ x. f (g x)) xs ≡ sum_by (λ x. f (g x)) ys
sum_images f g xs ys same = sym (sum_map f g xs) ∙ ap (sum_by f) same ∙ sum_map f g ys

-- what stands at the same place of a list with the same images
pub same_at : {A B : Type 0} (g : A → B) (xs ys : List A) → map g xs ≡ map g ys → (i : ℕ) (x : A) → slice_get xs i ≡ Some x → (y : A) × (slice_get ys i ≡ Some y) × (g y ≡ g x)
same_at {A} {B} g xs ys same i x at = map_slice_get g ys i (g x) (subst (λ (zs : List B). slice_get zs i ≡ Some (g x)) same (slice_get-map_some g xs i x at))

-- ---- lists that go together
module _ {A B : Type 0} (R : A → B → Type 0) where
  -- by what stands at the same place of both
  pub zip_at : (xs : List A) (ys : List B) → AllZip R xs ys → (i : ℕ) (x : A) (y : B) → slice_get xs i ≡ Some x → slice_get ys i ≡ Some y → R x y
  zip_at [] ys all i x y at at' = absurd (none-some x at)
  zip_at (a ∷ xs) [] all i x y at at' = absurd all
  zip_at (a ∷ xs) (b ∷ ys) all zero x y at at' = subst (λ (z : B). R x z) (same_Some b y at') (subst (λ (z : A). R z b) (same_Some a x at) all.0)
  zip_at (a ∷ xs) (b ∷ ys) all (suc i) x y at at' = zip_at xs ys all.1 i x y at at'

  -- what stands in the first where something stands in the second
  pub zip_back : (xs : List A) (ys : List B) → AllZip R xs ys → (i : ℕ) (y : B) → slice_get ys i ≡ Some y → (x : A) × (slice_get xs i ≡ Some x) × R x y
  zip_back [] [] all i y at = absurd (none-some y at)
  zip_back [] (b ∷ ys) all i y at = absurd all
  zip_back (a ∷ xs) [] all i y at = absurd all
  zip_back (a ∷ xs) (b ∷ ys) all zero y at = (a, refl, subst (λ (z : B). R a z) (same_Some b y at) all.0)
  zip_back (a ∷ xs) (b ∷ ys) all (suc i) y at = zip_back xs ys all.1 i y at

module _ {A B : Type 0} (R : A → B → Type 0) where
  -- after a change at one place of the second
  pub zip_set : (xs : List A) (ys : List B) → AllZip R xs ys → (k : ℕ) (x : A) (y : B) → slice_get xs k ≡ Some x → R x y → AllZip R xs (slice_set ys k y)
  zip_set [] [] all k x y at here = absurd (none-some x at)
  zip_set [] (b ∷ ys) all k x y at here = absurd all
  zip_set (a ∷ xs) [] all k x y at here = absurd all
  zip_set (a ∷ xs) (b ∷ ys) all zero x y at here = (subst (λ (z : A). R z y) (sym (same_Some a x at)) here, all.1)
  zip_set (a ∷ xs) (b ∷ ys) all (suc k) x y at here = (all.0, zip_set xs ys all.1 k x y at here)

  -- what holds of the first of each pair, and of both
  pub zip_parts : (P : A → Type 0) (xs : List A) (ys : List B) → AllZip (λ x y. P x × R x y) xs ys → AllByRecursion P xs × AllZip R xs ys
  zip_parts P [] [] all = (tt, tt)
  zip_parts P [] (b ∷ ys) all = absurd all
  zip_parts P (a ∷ xs) [] all = absurd all
  zip_parts P (a ∷ xs) (b ∷ ys) all = let (first, both) = zip_parts P xs ys all.1 in ((all.0.0, first), (all.0.1, both))

  pub zip_whole : (P : A → Type 0) (xs : List A) (ys : List B) → AllByRecursion P xs → AllZip R xs ys → AllZip (λ x y. P x × R x y) xs ys
  zip_whole P [] [] first both = tt
  zip_whole P [] (b ∷ ys) first both = absurd both
  zip_whole P (a ∷ xs) [] first both = absurd both
  zip_whole P (a ∷ xs) (b ∷ ys) first both = ((first.0, both.0), zip_whole P xs ys first.1 both.1)

-- through a list in the middle
pub zip_through : {A B C : Type 0} (R : A → B → Type 0) (S : A → C → Type 0) (xs : List A) (ys : List B) (zs : List C) → AllZip R xs ys → AllZip (λ y z. (x : A) → R x y → S x z) ys zs → AllZip S xs zs
zip_through R S [] [] [] first second = tt
zip_through R S [] [] (z ∷ zs) first second = absurd second
zip_through R S [] (y ∷ ys) zs first second = absurd first
zip_through R S (x ∷ xs) [] zs first second = absurd first
zip_through R S (x ∷ xs) (y ∷ ys) [] first second = absurd second
zip_through R S (x ∷ xs) (y ∷ ys) (z ∷ zs) first second = (second.0 x first.0, zip_through R S xs ys zs first.1 second.1)

-- ---- tests of numbers
pub eq_same : (n : ℕ) → nat_eq n n ≡ true
eq_same n = grind (arith, nat_tests)

pub eq_is : (a b : ℕ) → nat_eq a b ≡ true → a ≡ b
eq_is a b e = grind (arith, nat_tests, e)

pub eq_differs : (a b : ℕ) → ¬ (b ≡ a) → nat_eq a b ≡ false
eq_differs a b differ = at (nat_eq a b) refl
  where
    at : (v : Bool) → nat_eq a b ≡ v → nat_eq a b ≡ false
    at true e = absurd (differ (sym (eq_is a b e)))
    at false e = e

-- a number takes the place of nothing
pub sum_put : (ns : List ℕ) (i n : ℕ) → slice_get ns i ≡ Some 0 → sum_by (λ k. k) (slice_set ns i n) ≡ sum_by (λ k. k) ns + n
sum_put ns i n is =
    let change : sum_by (λ k. k) (slice_set ns i n) + 0 ≡ sum_by (λ k. k) ns + n = sum_set (λ (k : ℕ). k) ns i 0 n is in
    omega (arith, change)

-- what stands at one place of two lists, with one more in each
pub both_more : {A B : Type 0} (R : ℕ → A → B → Type 0) (xs : List A) (ys : List B) (x : A) (y : B) → length xs ≡ length ys → ((i : ℕ) (a : A) (b : B) → slice_get xs i ≡ Some a → slice_get ys i ≡ Some b → R i a b) → R (length xs) x y
    → (i : ℕ) (a : A) (b : B) → slice_get (xs ++ x ∷ []) i ≡ Some a → slice_get (ys ++ y ∷ []) i ≡ Some b → R i a b
both_more {A} {B} R xs ys x y long each here i a b at at' = elim (slice_get_push_at xs x i a at) [
  | inl old ↦ elim (slice_get_push_at ys y i b at') [
    | inl old' ↦ each i a b old old'
    | inr last ↦ absurd (let within = slice_get_within xs i a old in let e = last.0 in omega (arith, within, e, long))
  ]
  | inr last ↦ elim (slice_get_push_at ys y i b at') [
    | inl old' ↦ absurd (let within = slice_get_within ys i b old' in let e = last.0 in omega (arith, within, e, long))
    | inr last' ↦ subst (λ (k : ℕ). R k a b) (sym last.0) (subst (λ (z : A). R (length xs) z b) (sym last.1) (subst (λ (z : B). R (length xs) x z) (sym last'.1) here))
  ]
]
