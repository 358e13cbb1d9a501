-- Sums and counts over a list, beyond std's lemmas.
use Rattle.std.proofs.Common.{◌≡◌, ℕ, ◌+◌, ◌≤◌, Bool, true, false, cond, List, [], ◌∷◌, ◌++◌, map, filter, length, refl, sym, ap, ◌∙◌, inl, inr, arith, zero, suc, Some, slice_get}
use Rattle.std.proofs.lemmas.List.Folds.{fold-map}
use Rattle.std.proofs.lemmas.List.Sums.{length-filter, sum_by-append, sum_by-cons, sum_by_push, count_by-le-length}
use Rattle.std.specs.List.{AllZip, count_by, flat_map, sum_by}
use Rattle.mcs_base.specs.Listings.{IsAmong}
use Rattle.mcs_base.proofs.Among.{among_filter, filter_none, place_among}

module _ {A : Type 0} where
  pub sum_by_same : (v w : A → ℕ) (xs : List A) → ((x : A) → IsAmong x xs → v x ≡ w x) → sum_by v xs ≡ sum_by w xs
  sum_by_same v w [] same = refl
  sum_by_same v w (x ∷ xs) same = omega (arith, sum_by-cons v x xs, sum_by-cons w x xs, same x (inl refl), sum_by_same v w xs (λ y h. same y (inr h)))

  pub sum_by_none : (w : A → ℕ) (xs : List A) → ((x : A) → IsAmong x xs → w x ≡ 0) → sum_by w xs ≡ 0
  sum_by_none w [] none = refl
  sum_by_none w (x ∷ xs) none = omega (arith, sum_by-cons w x xs, none x (inl refl), sum_by_none w xs (λ y h. none y (inr h)))

  pub sum_by-ones : (xs : List A) → sum_by (λ (x : A). 1) xs ≡ length xs
  sum_by-ones [] = refl
  sum_by-ones (x ∷ xs) = omega (arith, sum_by-cons (λ (x : A). 1) x xs, sum_by-ones xs)

  -- of all, or of none
  pub sum_by-cond : (b : Bool) (w : A → ℕ) (xs : List A) → sum_by (λ (x : A). cond b (w x) 0) xs ≡ cond b (sum_by w xs) 0
  sum_by-cond true w xs = refl
  sum_by-cond false w xs = sum_by_none (λ (x : A). 0) xs (λ x here. refl)

  -- ---- counts
  pub count_by-cons : (p : A → Bool) (x : A) (xs : List A) → count_by p (x ∷ xs) ≡ cond (p x) 1 0 + count_by p xs
  count_by-cons p x xs = sum_by-cons (λ x. cond (p x) 1 0) x xs

  pub count_by-append : (p : A → Bool) (xs ys : List A) → count_by p (xs ++ ys) ≡ count_by p xs + count_by p ys
  count_by-append p xs ys = sum_by-append (λ x. cond (p x) 1 0) xs ys

  pub count_by_push : (p : A → Bool) (xs : List A) (x : A) → count_by p (xs ++ x ∷ []) ≡ count_by p xs + cond (p x) 1 0
  count_by_push p xs x = sum_by_push (λ x. cond (p x) 1 0) xs x

  pub count_by_push_yes : (p : A → Bool) (xs : List A) (x : A) → p x ≡ true → count_by p (xs ++ x ∷ []) ≡ count_by p xs + 1
  count_by_push_yes p xs x e = rw e at (count_by_push p xs x)

  pub count_by_push_no : (p : A → Bool) (xs : List A) (x : A) → p x ≡ false → count_by p (xs ++ x ∷ []) ≡ count_by p xs
  count_by_push_no p xs x e = let h = rw e at (count_by_push p xs x) in omega arith

  pub count_none : (p : A → Bool) (xs : List A) → ((x : A) → IsAmong x xs → p x ≡ false) → count_by p xs ≡ 0
  count_none p xs each = sym (length-filter p xs) ∙ ap length (filter_none p xs each)

  pub count_some : (p : A → Bool) (x : A) (xs : List A) → IsAmong x xs → p x ≡ true → 1 ≤ count_by p xs
  count_some p x xs h passes = let (k, less, is) = place_among (filter p xs) x (among_filter p x xs h passes) in omega (arith, less, length-filter p xs)

module _ {A B : Type 0} where
  pub count_by-map : (p : B → Bool) (f : A → B) (xs : List A) → count_by p (map f xs) ≡ count_by (λ x. p (f x)) xs
  count_by-map p f xs = fold-map (λ n y. n + cond (p y) 1 0) f 0 xs

  pub count_by-flat_map : (p : B → Bool) (f : A → List B) (xs : List A) → count_by p (flat_map f xs) ≡ sum_by (λ x. count_by p (f x)) xs
  count_by-flat_map p f [] = refl
  count_by-flat_map p f (x ∷ xs) = omega (arith, sum_by-cons (λ x. count_by p (f x)) x xs, count_by-append p (f x) (flat_map f xs), count_by-flat_map p f xs)

  -- two lists whose pairs pass alike
  pub zip_count : (R : A → B → Type 0) (p : A → Bool) (q : B → Bool) → ((x : A) (y : B) → R x y → p x ≡ q y) → (xs : List A) (ys : List B) → AllZip R xs ys → count_by p xs ≡ count_by q ys
  zip_count R p q same [] [] all = refl
  zip_count R p q same [] (y ∷ ys) all = absurd all
  zip_count R p q same (x ∷ xs) [] all = absurd all
  zip_count R p q same (x ∷ xs) (y ∷ ys) all = let here : cond {A = ℕ} (p x) 1 0 ≡ cond (q y) 1 0 = rw (same x y all.0) refl in omega (arith, here, count_by-cons p x xs, count_by-cons q y ys, zip_count R p q same xs ys all.1)

-- ---- what a test keeps, lists one after the other, two, and lists that go together
module _ {A : Type 0} where
  pub few_kept : (p : A → Bool) (xs : List A) → length (filter p xs) ≤ length xs
  few_kept p xs = omega (arith, length-filter p xs, count_by-le-length p xs)

  pub sum_by-flat_map : {B : Type 0} (w : B → ℕ) (f : A → List B) (xs : List A) → sum_by w (flat_map f xs) ≡ sum_by (λ (x : A). sum_by w (f x)) xs
  sum_by-flat_map w f [] = refl
  sum_by-flat_map w f (x ∷ xs) = omega (arith, sum_by-append w (f x) (flat_map f xs), sum_by-cons (λ (y : A). sum_by w (f y)) x xs, sum_by-flat_map w f xs)

  pub sum_of_two : (w : A → ℕ) (x y : A) → sum_by w (x ∷ y ∷ []) ≡ w x + w y
  sum_of_two w x y = omega (arith, sum_by-cons w x (y ∷ []), sum_by-cons w y [])

-- lists that are each as long as two numbers together
pub sum_both : {A : Type 0} (ns ks : List ℕ) (cs : List (List A)) → length ns ≡ length cs → length ks ≡ length cs
    → ((i a b : ℕ) (c : List A) → slice_get ns i ≡ Some a → slice_get ks i ≡ Some b → slice_get cs i ≡ Some c → length c ≡ a + b)
    → sum_by (λ (c : List A). length c) cs ≡ sum_by (λ n. n) ns + sum_by (λ n. n) ks
sum_both [] [] [] la lb each = refl
sum_both (a ∷ ns) ks [] la lb each = absurd (omega (arith, la))
sum_both ns (b ∷ ks) [] la lb each = absurd (omega (arith, lb))
sum_both [] ks (c ∷ cs) la lb each = absurd (omega (arith, la))
sum_both ns [] (c ∷ cs) la lb each = absurd (omega (arith, lb))
sum_both {A} (a ∷ ns) (b ∷ ks) (c ∷ cs) la lb each =
    let here = each zero a b c refl refl refl in
    let rest = sum_both ns ks cs (omega (arith, la)) (omega (arith, lb)) (λ i x y z at at' at''. each (suc i) x y z at at' at'') in
    omega (arith, sum_by-cons (λ (n : ℕ). n) a ns, sum_by-cons (λ (n : ℕ). n) b ks, sum_by-cons (λ (l : List A). length l) c cs, here, rest)
