-- Sets and lists of numbers: what is common to three sets, lists without repeats, the subsets of a set, sums that are bounded, the least of a strict order, tests of two things at once.
use Rattle.std.proofs.Common.{◌≡◌, ℕ, ◌+◌, ◌^◌, ◌<◌, ◌≤◌, zero, suc, Bool, true, false, List, [], ◌∷◌, ◌++◌, length, map, take, Some, slice_get, refl, sym, ap, ◌∙◌, subst, inl, inr, ◌⊎◌, ◌↔◌, arith, true≢false}
use Rattle.std.proofs.lemmas.Bool.{cases_lt, cases_Bool}
use Rattle.std.proofs.lemmas.List.{length-append, take_all}
use Rattle.std.proofs.lemmas.List.Sums.{sum_by-cons}
use Rattle.std.proofs.Math.Nat.{two-pow-succ}
use Rattle.std.specs.List.{range_with_len, sum_by}
use Rattle.mcs_sets.specs.Sets.{single, union, common}
use Rattle.mcs_sets.proofs.SetLemmas.{same_set, has-empty, has-common}
use Rattle.mcs_base.specs.Listings.{IsAmong, IsListing}

-- ---- what is common
pub common_assoc : (a b c : ℕ) → common (common a b) c ≡ common a (common b c)
common_assoc a b c = same_set _ _ (λ k. grind (arith, has-common))

pub common-none : (a : ℕ) → common a 0 ≡ 0
common-none a = same_set _ _ (λ k. grind (arith, has-common, has-empty))

pub none-common : (a : ℕ) → common 0 a ≡ 0
none-common a = same_set _ _ (λ k. grind (arith, has-common, has-empty))

-- ---- lists without repeats
module _ {A : Type 0} where
  -- two names of one word, until all that cite them do without
  -- the listing of what a loop has mapped
  pub listed_map : {B : Type 0} (f : A → B) (xs : List A) (ys next : List B) (n : ℕ) (before : B → B → Type 0) → ys ≡ map f (take n xs) → length xs ≤ n → IsListing (λ y. IsAmong y ys) before next → (y : B) → IsAmong y next ↔ IsAmong y (map f xs)
  listed_map f xs ys next n before is long listing y =
      let whole : ys ≡ map f xs = is ∙ ap (map f) (take_all n xs long) in
      (λ h. subst (IsAmong y) whole ((listing.exactly y).0 h), λ h. (listing.exactly y).1 (subst (IsAmong y) (sym whole) h))

-- ---- a set with some of the numbers
abbrev pub with_some : List ℕ → ℕ → List ℕ
with_some [] a = a ∷ []
with_some (v ∷ vs) a = with_some vs a ++ with_some vs (union a (single v))

pub length-with_some : (vs : List ℕ) (a : ℕ) → length (with_some vs a) ≡ 2 ^ length vs
length-with_some [] a = omega arith
length-with_some (v ∷ vs) a = omega (arith, length-append (with_some vs a) (with_some vs (union a (single v))), length-with_some vs a, length-with_some vs (union a (single v)), two-pow-succ (length vs))

-- ---- sums over two lists, place by place
module _ {A : Type 0} where
  pub sum_by_bounded : (w : A → ℕ) (most : ℕ → ℕ) (k : ℕ) (xs : List A) → ((i : ℕ) (x : A) → slice_get xs i ≡ Some x → w x ≤ most (k + i)) → sum_by w xs ≤ sum_by most (range_with_len k (length xs))
  sum_by_bounded w most k [] few = omega arith
  sum_by_bounded w most k (x ∷ xs) few =
      let here : k + 0 ≡ k = omega arith in
      let first = subst (λ (n : ℕ). w x ≤ most n) here (few 0 x refl) in
      let rest = sum_by_bounded w most (k + 1) xs (λ i y is. let e : k + suc i ≡ k + 1 + i = omega arith in subst (λ (n : ℕ). w y ≤ most n) e (few (suc i) y is)) in
      omega (arith, first, rest, sum_by-cons w x xs, sum_by-cons most k (range_with_len (k + 1) (length xs)))

  pub sum_by_smaller : (w : A → ℕ) (xs ys : List A) → length xs ≡ length ys → ((i : ℕ) (x y : A) → slice_get xs i ≡ Some x → slice_get ys i ≡ Some y → w x ≤ w y) → sum_by w xs ≤ sum_by w ys
  sum_by_smaller w [] [] long few = omega arith
  sum_by_smaller w [] (y ∷ ys) long few = absurd (omega arith)
  sum_by_smaller w (x ∷ xs) [] long few = absurd (omega arith)
  sum_by_smaller w (x ∷ xs) (y ∷ ys) long few =
      omega (arith, few 0 x y refl refl, sum_by_smaller w xs ys (omega arith) (λ i x' y' is is'. few (suc i) x' y' is is'), sum_by-cons w x xs, sum_by-cons w y ys)

-- ---- a strict order has a minimal member in each set of numbers
module _ (lt : ℕ → ℕ → Bool) (p : ℕ → Bool) (bound : ℕ) (irreflexive : (i : ℕ) → i < bound → lt i i ≡ false)
    (transitive : (i j k : ℕ) → i < bound → j < bound → lt i j ≡ true → lt j k ≡ true → lt i k ≡ true) where
  abbrev IsMinimalBelow : ℕ → ℕ → Type 0
  IsMinimalBelow n i = (i < n) × (p i ≡ true) × ((j : ℕ) → j < n → p j ≡ true → lt i j ≡ false)

  pub minimal_below : (n : ℕ) → n ≤ bound → ((k : ℕ) → k < n → p k ≡ false) ⊎ ((i : ℕ) × IsMinimalBelow n i)
  minimal_below zero h = inl (λ k less. absurd (omega arith))
  minimal_below (suc n) h = at (p n) refl (minimal_below n (omega arith))
    where
      last : (P : ℕ → Type 0) → P n → ((k : ℕ) → k < n → P k) → (k : ℕ) → k < suc n → P k
      last P here below k less = elim (cases_lt k n) [ inl e ↦ below k e | inr e ↦ let same : n ≡ k = omega arith in subst P same here ]

      with_last : (i : ℕ) → IsMinimalBelow n i → p n ≡ true → (v : Bool) → lt i n ≡ v → (j : ℕ) × IsMinimalBelow (suc n) j
      with_last i (less, is, min) u true e = (
        n,
        (
          omega arith,
          u,
          last (λ j. p j ≡ true → lt n j ≡ false) (λ _. irreflexive n (omega arith)) (λ j less' u'. elim (cases_Bool (lt n j)) [
            | inl after ↦ absurd (true≢false (sym (transitive i n j (omega arith) (omega arith) e after) ∙ min j less' u'))
            | inr e' ↦ e'
          ]),
        ),
      )
      with_last i (less, is, min) u false e = (i, (omega arith, is, last (λ j. p j ≡ true → lt i j ≡ false) (λ _. e) min))

      at : (v : Bool) → p n ≡ v → ((k : ℕ) → k < n → p k ≡ false) ⊎ ((i : ℕ) × IsMinimalBelow n i) → ((k : ℕ) → k < suc n → p k ≡ false) ⊎ ((i : ℕ) × IsMinimalBelow (suc n) i)
      at false e (inl none) = inl (last (λ k. p k ≡ false) e none)
      at false e (inr (i, (less, is, min))) = inr (i, (omega arith, is, last (λ j. p j ≡ true → lt i j ≡ false) (λ u. absurd (true≢false (sym u ∙ e))) min))
      at true e (inl none) = inr (n, (omega arith, e, last (λ j. p j ≡ true → lt n j ≡ false) (λ _. irreflexive n (omega arith)) (λ j less u. absurd (true≢false (sym u ∙ none j less)))))
      at true e (inr (i, min)) = inr (with_last i min e (lt i n) refl)
