-- What is among a list, and what holds of each that is.
-- `among_filter` and the like tell what is among the filtered list, `filter_among` what follows for one that is.
use Rattle.std.proofs.Common.{◌≡◌, ℕ, ◌+◌, ◌-◌, ◌<◌, ◌≤◌, zero, suc, Bool, true, false, cond, List, [], ◌∷◌, ◌++◌, map, filter, reverse, length, take, drop, get_or, slice_get, set, Some, refl, sym, ap, ◌∙◌, subst, inl, inr, ◌⊎◌, ◌↔◌, arith, true≢false, ap₂}
use Rattle.std.proofs.lemmas.Bool.{false_from_ne_true, cases_eq}
use Rattle.std.proofs.lemmas.List.{take-append-drop, take_more, drop_more, drop_all, get_or-set_same, get_or-set_other, length-set, get_or-take, get_or-drop, length-take, length-drop, map_more}
use Rattle.std.proofs.lemmas.List.Folds.{Any-from_list_any, list_any-from_Any}
use Rattle.std.proofs.lemmas.List.Sorted.{Contains-permutation, IsPermutation-sym, IsPermutation-reverse}
use Rattle.std.proofs.lemmas.Option.{slice_get-get_or, slice_get_within, get_or_from_slice_get}
use Rattle.std.specs.List.{Contains, flat_map, list_all, list_any, range_with_len, AllZip}
use Rattle.std.specs.List.Sorted.{IsPermutation}
use Rattle.mcs_base.specs.Listings.{IsAmong}
use Rattle.mcs_base.proofs.Written.{take_front}

-- ---- one list after another
module _ {A : Type 0} where
  pub among_left : (x : A) (xs ys : List A) → IsAmong x xs → IsAmong x (xs ++ ys)
  among_left x [] ys h = absurd h
  among_left x (z ∷ zs) ys (inl e) = inl e
  among_left x (z ∷ zs) ys (inr h) = inr (among_left x zs ys h)

  pub among_right : (x : A) (xs ys : List A) → IsAmong x ys → IsAmong x (xs ++ ys)
  among_right x [] ys h = h
  among_right x (z ∷ zs) ys h = inr (among_right x zs ys h)

  pub among_either : (x : A) (xs ys : List A) → IsAmong x (xs ++ ys) → IsAmong x xs ⊎ IsAmong x ys
  among_either x [] ys h = inr h
  among_either x (z ∷ zs) ys (inl e) = inl (inl e)
  among_either x (z ∷ zs) ys (inr h) = elim (among_either x zs ys h) [ inl a ↦ inl (inr a) | inr b ↦ inr b ]

  pub among_append : (x : A) (xs ys : List A) → IsAmong x (xs ++ ys) ↔ (IsAmong x xs ⊎ IsAmong x ys)
  among_append x xs ys = (among_either x xs ys, λ h. elim h [ inl a ↦ among_left x xs ys a | inr b ↦ among_right x xs ys b ])

  pub among_push : (x : A) (xs : List A) (y : A) → IsAmong x (xs ++ y ∷ []) ↔ (IsAmong x xs ⊎ (x ≡ y))
  among_push x xs y = (
    λ h. elim (among_either x xs (y ∷ []) h) [ inl a ↦ inl a | inr last ↦ elim last [ inl e ↦ inr e | inr none ↦ absurd none ] ],
    λ h. elim h [ inl a ↦ among_left x xs (y ∷ []) a | inr e ↦ among_right x xs (y ∷ []) (inl e) ],
  )

  pub nil_from_none : (xs : List A) → ((x : A) → ¬ IsAmong x xs) → xs ≡ []
  nil_from_none [] none = refl
  nil_from_none (x ∷ xs) none = absurd (none x (inl refl))

  -- ---- places
  pub among_get : (x : A) (xs : List A) (k : ℕ) → slice_get xs k ≡ Some x → IsAmong x xs
  among_get x [] k is = cc
  among_get x (z ∷ zs) zero is = inl (cc)
  among_get x (z ∷ zs) (suc k) is = inr (among_get x zs k is)

  pub get_among : (x : A) (xs : List A) → IsAmong x xs → (k : ℕ) × (slice_get xs k ≡ Some x)
  get_among x [] h = absurd h
  get_among x (z ∷ zs) (inl e) = (0, ap (λ y. Some y) (sym e))
  get_among x (z ∷ zs) (inr h) = let (k, is) = get_among x zs h in (suc k, is)

  pub among_at : (xs : List A) (k : ℕ) (d : A) → k < length xs → IsAmong (get_or xs k d) xs
  among_at xs k d less = among_get _ xs k (slice_get-get_or xs k d less)

  pub place_among : (xs : List A) (x : A) → IsAmong x xs → (k : ℕ) × (k < length xs) × ((d : A) → get_or xs k d ≡ x)
  place_among xs x h = let (k, is) = get_among x xs h in (k, slice_get_within xs k x is, λ d. get_or_from_slice_get xs k x d is)

  pub among_place : (xs : List A) (k : ℕ) (x : A) → k < length xs → ((d : A) → get_or xs k d ≡ x) → IsAmong x xs
  among_place xs k x less is = subst (λ (y : A). IsAmong y xs) (is x) (among_at xs k x less)

  pub among_from_contains : (x : A) (xs : List A) → Contains xs x → IsAmong x xs
  among_from_contains x xs (k, less, is) = subst (λ (y : A). IsAmong y xs) is (among_at xs k x less)

  pub contains_from_among : (x : A) (xs : List A) → IsAmong x xs → Contains xs x
  contains_from_among x xs h = let (k, less, is) = place_among xs x h in (k, less, is x)

  -- ---- fronts and rests
  pub take_among : (xs : List A) (n : ℕ) (x : A) → IsAmong x (take n xs) → IsAmong x xs
  take_among xs n x h = subst (IsAmong x) (take-append-drop n xs) (among_left x (take n xs) (drop n xs) h)

  pub drop_among : (xs : List A) (n : ℕ) (x : A) → IsAmong x (drop n xs) → IsAmong x xs
  drop_among xs n x h = subst (IsAmong x) (take-append-drop n xs) (among_right x (take n xs) (drop n xs) h)

  pub among_parts : (xs : List A) (n : ℕ) (x : A) → IsAmong x xs → IsAmong x (take n xs) ⊎ IsAmong x (drop n xs)
  among_parts xs n x h = among_either x (take n xs) (drop n xs) (subst (IsAmong x) (sym (take-append-drop n xs)) h)

  pub among_take_more : (xs : List A) (k : ℕ) (x : A) → k < length xs → x ≡ get_or xs k x → (y : A) → IsAmong y (take (k + 1) xs) ↔ (IsAmong y (take k xs) ⊎ (y ≡ x))
  among_take_more xs k x less is y = rw (take_more xs k x less, ← is) (among_push y (take k xs) x)

  pub among_drop_more : (xs : List A) (k : ℕ) (d : A) → k < length xs → (y : A) → IsAmong y (drop k xs) ↔ ((y ≡ get_or xs k d) ⊎ IsAmong y (drop (k + 1) xs))
  among_drop_more xs k d less y = rw (drop_more xs k d less) (λ h. h, λ h. h)

  pub among_drop_first : (xs : List A) (k : ℕ) (d : A) → k < length xs → IsAmong (get_or xs k d) (drop k xs)
  among_drop_first xs k d less = (among_drop_more xs k d less (get_or xs k d)).1 (inl refl)

  pub none_among_drop : (xs : List A) (k : ℕ) (x : A) → length xs ≤ k → ¬ IsAmong x (drop k xs)
  none_among_drop xs k x past h = subst (IsAmong x) (drop_all k xs past) h

  -- what stands from place i on, and before place j
  pub part_among : (xs : List A) (i j : ℕ) (x : A) → IsAmong x (take (j - i) (drop i xs)) → (k : ℕ) × (i ≤ k) × (k < j) × (k < length xs) × ((d : A) → get_or xs k d ≡ x)
  part_among xs i j x h =
      let (k, less, is) = place_among (take (j - i) (drop i xs)) x h in
      let below : k < j - i = omega (arith, less, length-take (j - i) (drop i xs)) in
      (i + k, omega arith, omega arith, omega (arith, less, length-take (j - i) (drop i xs), length-drop i xs), λ d. sym (get_or-take (j - i) (drop i xs) k d below ∙ get_or-drop i xs k d) ∙ is d)

  pub among_part : (xs : List A) (i j k : ℕ) (x : A) → i ≤ k → k < j → k < length xs → ((d : A) → get_or xs k d ≡ x) → IsAmong x (take (j - i) (drop i xs))
  among_part xs i j k x from below less is =
      among_place (take (j - i) (drop i xs)) (k - i) x (omega (arith, length-take (j - i) (drop i xs), length-drop i xs))
      (λ d. get_or-take (j - i) (drop i xs) (k - i) d (omega arith) ∙ get_or-drop i xs (k - i) d ∙ let e : i + (k - i) ≡ k = omega arith in ap (λ n. get_or xs n d) e ∙ is d)

  pub among_insert : (x : A) (xs : List A) (n : ℕ) (y : A) → IsAmong y (take n xs ++ x ∷ drop n xs) ↔ ((y ≡ x) ⊎ IsAmong y xs)
  among_insert x xs n y = (
    λ h. elim (among_either y (take n xs) (x ∷ drop n xs) h) [ inl a ↦ inr (take_among xs n y a) | inr h' ↦ elim h' [ inl e ↦ inl e | inr b ↦ inr (drop_among xs n y b) ] ],
    λ h. elim h [
      | inl e ↦ among_right y (take n xs) (x ∷ drop n xs) (inl e)
      | inr h' ↦ elim (among_parts xs n y h') [ inl a ↦ among_left y (take n xs) (x ∷ drop n xs) a | inr b ↦ among_right y (take n xs) (x ∷ drop n xs) (inr b) ]
    ],
  )

  -- ---- the same in another order
  pub among_permutation : (xs ys : List A) → IsPermutation xs ys → (x : A) → IsAmong x ys ↔ IsAmong x xs
  among_permutation xs ys moved x = (
    λ h. among_from_contains x xs (Contains-permutation ys xs x (IsPermutation-sym xs ys moved) (contains_from_among x ys h)),
    λ h. among_from_contains x ys (Contains-permutation xs ys x moved (contains_from_among x xs h)),
  )

  pub among_reverse : (x : A) (xs : List A) → IsAmong x (reverse xs) ↔ IsAmong x xs
  among_reverse x xs = among_permutation xs (reverse xs) (IsPermutation-reverse xs) x

  -- ---- those that pass a test
  pub among_filter : (p : A → Bool) (x : A) (xs : List A) → IsAmong x xs → p x ≡ true → IsAmong x (filter p xs)
  among_filter p x [] h passes = absurd h
  among_filter p x (z ∷ zs) (inl e) passes = rw (ap p (sym e) ∙ passes) (inl e)
  among_filter p x (z ∷ zs) (inr h) passes = at (p z) (among_filter p x zs h passes)
    where
      at : (v : Bool) → IsAmong x (filter p zs) → IsAmong x (cond v (z ∷ filter p zs) (filter p zs))
      at true rest = inr rest
      at false rest = rest

  pub filter_among : (p : A → Bool) (x : A) (xs : List A) → IsAmong x (filter p xs) → IsAmong x xs × (p x ≡ true)
  filter_among p x [] h = absurd h
  filter_among p x (z ∷ zs) h = at (p z) refl h (filter_among p x zs)
    where
      at : (v : Bool) → p z ≡ v → IsAmong x (cond v (z ∷ filter p zs) (filter p zs)) → (IsAmong x (filter p zs) → IsAmong x zs × (p x ≡ true)) → ((x ≡ z) ⊎ IsAmong x zs) × (p x ≡ true)
      at true is (inl e) rest = (inl e, ap p e ∙ is)
      at true is (inr h) rest = (inr (rest h).0, (rest h).1)
      at false is h rest = (inr (rest h).0, (rest h).1)

  pub filter_all : (p : A → Bool) (xs : List A) → ((x : A) → IsAmong x xs → p x ≡ true) → filter p xs ≡ xs
  filter_all p [] each = refl
  filter_all p (x ∷ xs) each = rw (each x (inl refl), filter_all p xs (λ y h. each y (inr h))) refl

  pub filter_none : (p : A → Bool) (xs : List A) → ((x : A) → IsAmong x xs → p x ≡ false) → filter p xs ≡ []
  filter_none p [] each = refl
  filter_none p (x ∷ xs) each = rw (each x (inl refl)) (filter_none p xs (λ y h. each y (inr h)))

  -- ---- tests of a list
  pub any_get : (p : A → Bool) (xs : List A) → list_any p xs ≡ true → (k : ℕ) × (x : A) × (slice_get xs k ≡ Some x) × (p x ≡ true)
  any_get p xs e = let (k, x, less, is, passes) = Any-from_list_any p xs e in (k, x, slice_get-get_or xs k x less ∙ ap (λ y. Some y) is, passes)

  pub get_any : (p : A → Bool) (xs : List A) (k : ℕ) (x : A) → slice_get xs k ≡ Some x → p x ≡ true → list_any p xs ≡ true
  get_any p xs k x is passes = list_any-from_Any p xs (k, x, slice_get_within xs k x is, get_or_from_slice_get xs k x x is, passes)

  pub among_any : (p : A → Bool) (xs : List A) (x : A) → IsAmong x xs → p x ≡ true → list_any p xs ≡ true
  among_any p xs x h passes = let (k, is) = get_among x xs h in get_any p xs k x is passes

  pub any_none : (p : A → Bool) (xs : List A) → ((x : A) → IsAmong x xs → p x ≡ false) → list_any p xs ≡ false
  any_none p [] each = refl
  any_none p (x ∷ xs) each = rw (each x (inl refl)) (any_none p xs (λ y h. each y (inr h)))

  pub none_any : (p : A → Bool) (xs : List A) (x : A) → list_any p xs ≡ false → IsAmong x xs → p x ≡ false
  none_any p xs x none h = false_from_ne_true (p x) (λ passes. true≢false (sym (among_any p xs x h passes) ∙ none))

  pub none_get : (p : A → Bool) (xs : List A) (k : ℕ) (x : A) → list_any p xs ≡ false → slice_get xs k ≡ Some x → p x ≡ false
  none_get p xs k x none is = none_any p xs x none (among_get x xs k is)

  pub all_same : (p q : A → Bool) (xs : List A) → ((x : A) → IsAmong x xs → p x ≡ q x) → list_all p xs ≡ list_all q xs
  all_same p q [] same = refl
  all_same p q (x ∷ xs) same = rw (same x (inl refl), all_same p q xs (λ y h. same y (inr h))) refl

-- ---- images
module _ {A B : Type 0} where
  pub among_map : (f : A → B) (x : A) (xs : List A) → IsAmong x xs → IsAmong (f x) (map f xs)
  among_map f x [] h = absurd h
  among_map f x (z ∷ zs) (inl e) = inl (ap f e)
  among_map f x (z ∷ zs) (inr h) = inr (among_map f x zs h)

  pub map_among : (f : A → B) (y : B) (xs : List A) → IsAmong y (map f xs) → (x : A) × IsAmong x xs × (y ≡ f x)
  map_among f y [] h = absurd h
  map_among f y (x ∷ xs) (inl e) = (x, inl refl, e)
  map_among f y (x ∷ xs) (inr h) = let (z, among, e) = map_among f y xs h in (z, inr among, e)

  pub among_flat_map : (f : A → List B) (x : A) (y : B) (xs : List A) → IsAmong x xs → IsAmong y (f x) → IsAmong y (flat_map f xs)
  among_flat_map f x y [] here there = absurd here
  among_flat_map f x y (z ∷ zs) (inl e) there = among_left y (f z) (flat_map f zs) (subst (λ (w : A). IsAmong y (f w)) e there)
  among_flat_map f x y (z ∷ zs) (inr here) there = among_right y (f z) (flat_map f zs) (among_flat_map f x y zs here there)

  pub flat_map_among : (f : A → List B) (y : B) (xs : List A) → IsAmong y (flat_map f xs) → (x : A) × IsAmong x xs × IsAmong y (f x)
  flat_map_among f y [] there = absurd there
  flat_map_among f y (z ∷ zs) there = elim (among_either y (f z) (flat_map f zs) there) [
    | inl here ↦ (z, inl refl, here)
    | inr later ↦ let (x, in_xs, in_f) = flat_map_among f y zs later in (x, inr in_xs, in_f)
  ]

  pub flat_map_none : (f : A → List B) (xs : List A) → ((x : A) → IsAmong x xs → f x ≡ []) → flat_map f xs ≡ []
  flat_map_none f [] none = refl
  flat_map_none f (x ∷ xs) none = rw (none x (inl refl)) (flat_map_none f xs (λ y h. none y (inr h)))

  pub map_back : (f : A → B) (g : B → A) (xs : List A) → ((x : A) → IsAmong x xs → g (f x) ≡ x) → map g (map f xs) ≡ xs
  map_back f g [] back = refl
  map_back f g (x ∷ xs) back = ap₂ (λ y ys. y ∷ ys) (back x (inl refl)) (map_back f g xs (λ y h. back y (inr h)))

  -- no image among the first, and not that of the next
  pub no_image_more : (f : A → B) (xs : List A) (k : ℕ) (x : A) (y : B) → k < length xs → x ≡ get_or xs k x → ¬ (y ≡ f x) → ¬ IsAmong y (map f (take k xs)) → ¬ IsAmong y (map f (take (k + 1) xs))
  no_image_more f xs k x y less is differ none h =
      elim ((among_push y (map f (take k xs)) (f x)).0 (subst (IsAmong y) (rw is (map_more f xs k x less)) h)) [ inl there ↦ none there | inr e ↦ differ e ]

  -- ---- pairs
  pub zip_among : (R : A → B → Type 0) (xs : List A) (ys : List B) → AllZip R xs ys → (x : A) → IsAmong x xs → (y : B) × IsAmong y ys × R x y
  zip_among R [] ys all x h = absurd h
  zip_among R (x' ∷ xs) [] all x h = absurd all
  zip_among R (x' ∷ xs) (y ∷ ys) all x (inl e) = (y, inl refl, subst (λ (z : A). R z y) (sym e) all.0)
  zip_among R (x' ∷ xs) (y ∷ ys) all x (inr h) = let (z, there, r) = zip_among R xs ys all.1 x h in (z, inr there, r)

  pub among_zip : (R : A → B → Type 0) (xs : List A) (ys : List B) → AllZip R xs ys → (y : B) → IsAmong y ys → (x : A) × IsAmong x xs × R x y
  among_zip R xs [] all y h = absurd h
  among_zip R [] (y' ∷ ys) all y h = absurd all
  among_zip R (x ∷ xs) (y' ∷ ys) all y (inl e) = (x, inl refl, subst (R x) (sym e) all.0)
  among_zip R (x ∷ xs) (y' ∷ ys) all y (inr h) = let (z, there, r) = among_zip R xs ys all.1 y h in (z, inr there, r)

-- ---- numbers
pub cases_among : (k : ℕ) (xs : List ℕ) → IsAmong k xs ⊎ (¬ IsAmong k xs)
cases_among k [] = inr (λ h. h)
cases_among k (x ∷ xs) = elim (cases_eq k x) [
  | inl e ↦ inl (inl e)
  | inr differ ↦ elim (cases_among k xs) [ inl later ↦ inl (inr later) | inr none ↦ inr (λ h. elim h [ inl e ↦ differ e | inr later ↦ none later ]) ]
]

pub among_range : (i k n : ℕ) → k ≤ i → i < k + n → IsAmong i (range_with_len k n)
among_range i k zero from below = absurd (omega arith)
among_range i k (suc n) from below = elim (cases_eq i k) [ inl e ↦ inl e | inr differ ↦ inr (among_range i (k + 1) n (omega arith) (omega arith)) ]

pub range_among : (i k n : ℕ) → IsAmong i (range_with_len k n) → (k ≤ i) × (i < k + n)
range_among i k zero h = absurd h
range_among i k (suc n) (inl e) = (omega arith, omega arith)
range_among i k (suc n) (inr h) = let (from, below) = range_among i (k + 1) n h in (omega arith, omega arith)

-- a list of the numbers below n for which P holds, and n
pub known_more : (P : ℕ → Type 0) (xs : List ℕ) (n : ℕ) → ((i : ℕ) → IsAmong i xs ↔ ((i < n) × P i)) → P n → (i : ℕ) → IsAmong i (xs ++ n ∷ []) ↔ ((i < n + 1) × P i)
known_more P xs n known here i = (
  λ h. elim ((among_push i xs n).0 h) [ inl old ↦ (let (less, p) = (known i).0 old in (omega arith, p)) | inr e ↦ (omega arith, subst P (sym e) here) ],
  λ h. (among_push i xs n).1 (elim (cases_eq i n) [ inl e ↦ inr e | inr differ ↦ inl ((known i).1 (let less = h.0 in omega arith, h.1)) ]),
)

pub known_same : (P : ℕ → Type 0) (xs : List ℕ) (n : ℕ) → ((i : ℕ) → IsAmong i xs ↔ ((i < n) × P i)) → ¬ P n → (i : ℕ) → IsAmong i xs ↔ ((i < n + 1) × P i)
known_same P xs n known never i = (
  λ h. let (less, p) = (known i).0 h in (omega arith, p),
  λ h. (known i).1 (elim (cases_eq i n) [ inl e ↦ absurd (never (subst P e h.1)) | inr differ ↦ (let less = h.0 in omega arith, h.1) ]),
)

-- ---- what is among a front is among a longer one
pub among_take_longer : {A : Type 0} (xs : List A) (n k : ℕ) (x : A) → n ≤ k → IsAmong x (take n xs) → IsAmong x (take k xs)
among_take_longer xs n k x fewer h =
    let (rest, is) = take_front n k xs fewer in
    subst (IsAmong x) (sym is) (among_left x (take n xs) rest h)

-- what stands at a place is among the items from there on
pub among_from : {A : Type 0} (xs : List A) (i : ℕ) (x : A) → slice_get xs i ≡ Some x → IsAmong x (drop i xs)
among_from [] i x is = cc
among_from (y ∷ xs) zero x is = inl (cc)
among_from (y ∷ xs) (suc i) x is = among_from xs i x is

-- what stands in a list where an item was put in place of another
pub set_among : {A : Type 0} (xs : List A) (i : ℕ) (x y : A) → i < length xs → IsAmong y (set xs i x) → (y ≡ x) ⊎ IsAmong y xs
set_among {A = A} xs i x y less among =
    let (k, less_k, at) = place_among (set xs i x) y among in
    let less' : k < length xs = (let same = length-set xs i x in omega arith) in
    elim (cases_eq k i) [
      | inl same ↦ inl (sym (at x) ∙ (ap (λ n. get_or (set xs i x) n x) same ∙ get_or-set_same xs i x x less))
      | inr apart ↦ inr (subst (λ (z : A). IsAmong z xs) (sym (get_or-set_other xs i k x x apart) ∙ at x) (among_at xs k x less'))
    ]
