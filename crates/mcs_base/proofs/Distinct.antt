-- Lists without repeats.
use Rattle.std.proofs.Common.{◌≡◌, ℕ, ◌+◌, ◌<◌, ◌≤◌, zero, suc, Bool, true, false, cond, List, [], ◌∷◌, ◌++◌, map, filter, length, slice_get, Some, refl, sym, ap, ◌∙◌, subst, inl, inr, arith}
use Rattle.mcs_base.specs.Listings.{IsAmong, IsAscending, AreApart}
use Rattle.mcs_base.proofs.Among.{among_right, among_either, among_get, get_among, filter_among, map_among}
use Rattle.mcs_base.proofs.Each.{all_among}

module _ {A : Type 0} where
  pub distinct_filter : (p : A → Bool) (xs : List A) → AreApart xs → AreApart (filter p xs)
  distinct_filter p [] d = tt
  distinct_filter p (x ∷ xs) d = at (p x) (distinct_filter p xs d.1)
    where
      at : (b : Bool) → AreApart (filter p xs) → AreApart (cond b (x ∷ filter p xs) (filter p xs))
      at true rest = ((λ h. d.0 (filter_among p x xs h).0), rest)
      at false rest = rest

  pub distinct_append : (xs ys : List A) → AreApart xs → AreApart ys → ((x : A) → IsAmong x xs → ¬ IsAmong x ys) → AreApart (xs ++ ys)
  distinct_append [] ys d e apart = e
  distinct_append (x ∷ xs) ys d e apart = (
    λ h. elim (among_either x xs ys h) [ inl here ↦ d.0 here | inr there ↦ apart x (inl refl) there ],
    distinct_append xs ys d.1 e (λ y here. apart y (inr here)),
  )

  pub distinct_push : (xs : List A) (x : A) → AreApart xs → ¬ IsAmong x xs → AreApart (xs ++ x ∷ [])
  distinct_push xs x d new = distinct_append xs (x ∷ []) d ((λ h. h), tt) (λ y here last. elim last [ inl e ↦ new (subst (λ (z : A). IsAmong z xs) e here) | inr none ↦ none ])

  pub distinct_parts : (xs ys : List A) (x : A) → AreApart (xs ++ ys) → IsAmong x xs → ¬ IsAmong x ys
  distinct_parts (z ∷ zs) ys x d (inl e) there = d.0 (among_right z zs ys (subst (λ (y : A). IsAmong y ys) e there))
  distinct_parts (z ∷ zs) ys x d (inr here) there = distinct_parts zs ys x d.1 here there
  distinct_parts [] ys x d here there = here

  -- where no two have one image
  pub distinct_map : {B : Type 0} (f : A → B) (xs : List A) → ((x y : A) → IsAmong x xs → IsAmong y xs → f x ≡ f y → x ≡ y) → AreApart xs → AreApart (map f xs)
  distinct_map f [] one d = tt
  distinct_map f (x ∷ xs) one d = (
    λ h. let (y, there, is) = map_among f (f x) xs h in d.0 (subst (λ (z : A). IsAmong z xs) (sym (one x y (inl refl) (inr there) is)) there),
    distinct_map f xs (λ y z here there. one y z (inr here) (inr there)) d.1,
  )

  -- ---- places
  pub one_place : (xs : List A) → AreApart xs → (j k : ℕ) (x : A) → slice_get xs j ≡ Some x → slice_get xs k ≡ Some x → j ≡ k
  one_place [] d j k x at_j at_k = cc
  one_place (y ∷ ys) d zero zero x at_j at_k = refl
  one_place (y ∷ ys) d zero (suc k) x at_j at_k = absurd (d.0 (among_get y ys k (at_k ∙ sym at_j)))
  one_place (y ∷ ys) d (suc j) zero x at_j at_k = absurd (d.0 (among_get y ys j (at_j ∙ sym at_k)))
  one_place (y ∷ ys) d (suc j) (suc k) x at_j at_k = ap suc (one_place ys d.1 j k x at_j at_k)

  pub distinct_from_places : (xs : List A) → ((j k : ℕ) (x : A) → slice_get xs j ≡ Some x → slice_get xs k ≡ Some x → j ≡ k) → AreApart xs
  distinct_from_places [] one = tt
  distinct_from_places (x ∷ xs) one = (
    λ h. let (k, at) = get_among x xs h in let no : 0 ≡ suc k = one 0 (suc k) x refl at in omega arith,
    distinct_from_places xs (λ j k y at at'. let e : suc j ≡ suc k = one (suc j) (suc k) y at at' in omega arith),
  )

  -- ---- how many
  -- a list is longer by one than what is left when a value is taken out
  pub taken_out : (x : A) (ys : List A) → IsAmong x ys → (zs : List A) × (length ys ≡ length zs + 1) × ((y : A) → IsAmong y ys → ¬ (y ≡ x) → IsAmong y zs)
  taken_out x [] h = absurd h
  taken_out x (y ∷ ys) (inl e) = (ys, omega arith, λ z h differ. elim h [ inl same ↦ absurd (differ (same ∙ sym e)) | inr later ↦ later ])
  taken_out x (y ∷ ys) (inr h) = let (zs, long, others) = taken_out x ys h in
      (y ∷ zs, omega arith, λ z h' differ. elim h' [ inl same ↦ inl same | inr later ↦ inr (others z later differ) ])

  -- a list without repeats is no longer than one that has all its values
  pub distinct_fits : (xs ys : List A) → AreApart xs → ((x : A) → IsAmong x xs → IsAmong x ys) → length xs ≤ length ys
  distinct_fits [] ys d within = omega arith
  distinct_fits (x ∷ xs) ys d within =
      let (zs, long, others) = taken_out x ys (within x (inl refl)) in
      omega (arith, long, distinct_fits xs zs d.1 (λ y h. others y (within y (inr h)) (λ e. d.0 (subst (λ (z : A). IsAmong z xs) e h))))

pub ascending_distinct : (xs : List ℕ) → IsAscending (λ (a b : ℕ). a < b) xs → AreApart xs
ascending_distinct [] up = tt
ascending_distinct (x ∷ xs) up = ((λ h. let less : x < x = all_among (λ y. x < y) xs x up.0 h in omega arith), ascending_distinct xs up.1)

-- a list with all numbers below n has at least n of them
pub covers_below : (n : ℕ) (xs : List ℕ) → ((i : ℕ) → i < n → IsAmong i xs) → n ≤ length xs
covers_below zero xs all = omega arith
covers_below (suc n) xs all =
    let (zs, long, others) = taken_out n xs (all n (omega arith)) in
    omega (arith, long, covers_below n zs (λ i less. others i (all i (omega arith)) (omega arith)))
