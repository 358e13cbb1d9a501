-- Lists, beyond std's lemmas: what stands at a place, images, ranges, and the parts of a list.
use Rattle.std.proofs.Common.{◌≡◌, ℕ, ◌+◌, ◌-◌, ◌<◌, ◌≤◌, min, zero, suc, Bool, true, false, ◌&&◌, ◌||◌, cond, eqb, List, [], ◌∷◌, ◌++◌, map, filter, reverse, length, take, drop, get_or, slice_get, Option, Some, None, refl, sym, ap, ◌∙◌, subst, inl, inr, ◌⊎◌, arith, add-one, set, ap₂}
use Rattle.std.proofs.Math.Seq.{take-append-add, drop-append_seam, take-append_seam}
use Rattle.std.proofs.lemmas.Bool.{cases_eq, cases_lt}
use Rattle.std.proofs.lemmas.Bool.Decides.{nat_tests}
use Rattle.std.proofs.lemmas.Grind.{flat_map-append}
use Rattle.std.proofs.lemmas.List.{append-nil, drop_more, flat_map_more, length-append, length-map, length-drop, reverse-append, get_or-map, drop-drop, take_min, get_or_append_left, append_assoc}
use Rattle.std.proofs.lemmas.List.Elements.{filter-append}
use Rattle.std.proofs.lemmas.List.FromFn.{get_or-map-range_with_len, length-map-range_with_len}
use Rattle.std.proofs.lemmas.Option.{slice_get-map, slice_get-get_or, slice_get_within, get_or_from_slice_get, slice_get_past, slice_get_read}
use Rattle.std.specs.List.{AllZip, flat_map, list_any, range_with_len, swap}
use Rattle.std.specs.Option.{option_map}
use Rattle.std.proofs.lemmas.List.Edits.{swap_is}

module _ {A : Type 0} where
  -- ---- what stands at a place
  pub slice_get_none : (xs : List A) (k : ℕ) → slice_get xs k ≡ None → length xs ≤ k
  slice_get_none [] k is = omega arith
  slice_get_none (x ∷ xs) zero is = cc
  slice_get_none (x ∷ xs) (suc k) is = let rest = slice_get_none xs k is in omega arith

  pub slice_get_below : (xs : List A) (k : ℕ) → k < length xs → (x : A) × (slice_get xs k ≡ Some x)
  slice_get_below [] k less = absurd (omega arith)
  slice_get_below (x ∷ xs) zero less = (x, refl)
  slice_get_below (x ∷ xs) (suc k) less = slice_get_below xs k (omega arith)

  -- what a read tells of the list that the one read from is
  pub slice_get_read_as : (xs ys : List A) (k : ℕ) (x : A) → ys ≡ xs → k < length ys → x ≡ get_or ys k x → slice_get xs k ≡ Some x
  slice_get_read_as xs ys k x same less is = rw (← same) (slice_get_read ys (length ys) k x refl less is)

  pub slice_get_past_as : (xs ys : List A) (k : ℕ) → ys ≡ xs → length ys ≤ k → slice_get xs k ≡ None
  slice_get_past_as xs ys k same past = rw (← same) (slice_get_past ys k past)

  pub slice_get-append_left : (xs ys : List A) (k : ℕ) → k < length xs → slice_get (xs ++ ys) k ≡ slice_get xs k
  slice_get-append_left [] ys k less = absurd (omega arith)
  slice_get-append_left (x ∷ xs) ys zero less = refl
  slice_get-append_left (x ∷ xs) ys (suc k) less = slice_get-append_left xs ys k (omega arith)

  pub slice_get-append_right : (xs ys : List A) (k : ℕ) → slice_get (xs ++ ys) (length xs + k) ≡ slice_get ys k
  slice_get-append_right [] ys k = ap (slice_get ys) (omega arith)
  slice_get-append_right (x ∷ xs) ys k = let e : length (x ∷ xs) + k ≡ suc (length xs + k) = omega arith in ap (slice_get (x ∷ (xs ++ ys))) e ∙ slice_get-append_right xs ys k

  pub slice_get_kept : (xs ys : List A) (k : ℕ) (x : A) → slice_get xs k ≡ Some x → slice_get (xs ++ ys) k ≡ Some x
  slice_get_kept xs ys k x is = slice_get-append_left xs ys k (slice_get_within xs k x is) ∙ is

  pub slice_get_seam : (xs : List A) (x : A) (ys : List A) (k : ℕ) → k ≡ length xs → slice_get (xs ++ x ∷ ys) k ≡ Some x
  slice_get_seam [] x ys k is = rw is refl
  slice_get_seam (y ∷ xs) x ys k is = rw is (slice_get_seam xs x ys (length xs) refl)

  pub slice_get_push_cases : (xs : List A) (y : A) (k : ℕ) (x : A) → slice_get (xs ++ y ∷ []) k ≡ Some x → (slice_get xs k ≡ Some x) ⊎ (x ≡ y)
  slice_get_push_cases [] y zero x is = inr (cc)
  slice_get_push_cases [] y (suc k) x is = cc
  slice_get_push_cases (z ∷ zs) y zero x is = inl is
  slice_get_push_cases (z ∷ zs) y (suc k) x is = slice_get_push_cases zs y k x is

  pub slice_get_push_at : (xs : List A) (y : A) (k : ℕ) (x : A) → slice_get (xs ++ y ∷ []) k ≡ Some x → (slice_get xs k ≡ Some x) ⊎ ((k ≡ length xs) × (x ≡ y))
  slice_get_push_at [] y zero x is = inr (refl, cc)
  slice_get_push_at [] y (suc k) x is = cc
  slice_get_push_at (z ∷ zs) y zero x is = inl is
  slice_get_push_at (z ∷ zs) y (suc k) x is = elim (slice_get_push_at zs y k x is) [ inl old ↦ inl old | inr (at, same) ↦ inr (ap suc at, same) ]

  pub slice_get_take : (n : ℕ) (xs : List A) (k : ℕ) (x : A) → slice_get (take n xs) k ≡ Some x → (k < n) × (slice_get xs k ≡ Some x)
  slice_get_take zero xs k x is = cc
  slice_get_take (suc n) [] k x is = cc
  slice_get_take (suc n) (y ∷ xs) zero x is = (omega arith, is)
  slice_get_take (suc n) (y ∷ xs) (suc k) x is = let (less, at) = slice_get_take n xs k x is in (omega arith, at)

  -- ---- parts
  pub take-append_room : (n : ℕ) (xs ys : List A) (k : ℕ) → length xs ≤ n → k ≡ min (length ys) (n - length xs) → xs ++ take k ys ≡ take n (xs ++ ys)
  take-append_room n xs ys k within is =
      let room : n ≡ length xs + (n - length xs) = omega arith in
      let least : k ≡ min (n - length xs) (length ys) = omega arith in
      ap (λ zs. xs ++ zs) (ap (λ j. take j ys) least ∙ take_min (n - length xs) ys) ∙ sym (take-append-add xs ys (n - length xs)) ∙ ap (λ j. take j (xs ++ ys)) (sym room)

  pub drop-cons_within : (n : ℕ) (xs : List A) (x d : A) (rest : List A) → drop n xs ≡ x ∷ rest → (n < length xs) × (get_or xs n d ≡ x)
  drop-cons_within n xs x d rest e =
      let less : n < length xs = omega (arith, ap length e, length-drop n xs) in
      (less, let here : get_or xs n d ∷ drop (n + 1) xs ≡ x ∷ rest = sym (drop_more xs n d less) ∙ e in cc)

  pub drop_past : (n : ℕ) (xs part rest : List A) → drop n xs ≡ part ++ rest → drop (n + length part) xs ≡ rest
  drop_past n xs part rest e = sym (drop-drop (length part) n xs) ∙ ap (drop (length part)) e ∙ drop-append_seam part rest

  pub drop_fits : (n : ℕ) (xs part rest : List A) → n ≤ length xs → drop n xs ≡ part ++ rest → n + length part ≤ length xs
  drop_fits n xs part rest within e = omega (arith, ap length e, length-append part rest, length-drop n xs)

  pub append_split : (before xs front back : List A) → xs ≡ front ++ back → before ++ xs ≡ (before ++ front) ++ back
  append_split before xs front back e = ap (λ zs. before ++ zs) e ∙ sym (append_assoc before front back)

  -- two splits of one list
  pub same_first : (xs rest ys rest' : List A) (d : A) → 0 < length xs → 0 < length ys → xs ++ rest ≡ ys ++ rest' → get_or xs 0 d ≡ get_or ys 0 d
  same_first xs rest ys rest' d some some' e = sym (get_or_append_left xs rest d 0 some) ∙ ap (λ zs. get_or zs 0 d) e ∙ get_or_append_left ys rest' d 0 some'

  pub later_split : (xs rest ys rest' : List A) → xs ++ rest ≡ ys ++ rest' → length xs < length ys → (y : A) × (more : List A) × (rest ≡ y ∷ (more ++ rest')) × (ys ≡ xs ++ y ∷ more)
  later_split xs rest [] rest' e less = absurd (omega arith)
  later_split [] rest (y ∷ more) rest' e less = (y, more, e, refl)
  later_split (x ∷ xs) rest (y ∷ ys) rest' e less =
      let (z, more, is, is') = later_split xs rest ys rest' (cc) (omega arith) in
      let head : y ≡ x = cc in
      (z, more, is, ap (λ z. z ∷ ys) head ∙ ap (λ zs. x ∷ zs) is')

  pub reverse-append_middle : (xs : List A) (x : A) (ys : List A) → reverse (xs ++ x ∷ ys) ≡ (reverse ys ++ x ∷ []) ++ reverse xs
  reverse-append_middle xs x ys = reverse-append xs (x ∷ ys) ∙ ap (λ zs. zs ++ reverse xs) (reverse-append (x ∷ []) ys)

  -- ---- tests
  pub filter-filter : (p q : A → Bool) (xs : List A) → filter p (filter q xs) ≡ filter (λ x. q x && p x) xs
  filter-filter p q [] = refl
  filter-filter p q (x ∷ xs) = at (q x) (filter-filter p q xs)
    where
      at : (v : Bool) → filter p (filter q xs) ≡ filter (λ x. q x && p x) xs → filter p (cond v (x ∷ filter q xs) (filter q xs)) ≡ cond (v && p x) (x ∷ filter (λ x. q x && p x) xs) (filter (λ x. q x && p x) xs)
      at true rest = rw rest refl
      at false rest = rest

-- ---- images
module _ {A B : Type 0} where
  pub slice_get-map_some : (f : A → B) (xs : List A) (k : ℕ) (x : A) → slice_get xs k ≡ Some x → slice_get (map f xs) k ≡ Some (f x)
  slice_get-map_some f xs k x is = slice_get-map f xs k ∙ ap (option_map f) is

  pub slice_get-map_at : (f : A → B) (xs : List A) (k : ℕ) (d : A) → k < length xs → slice_get (map f xs) k ≡ Some (f (get_or xs k d))
  slice_get-map_at f xs k d less = slice_get-map_some f xs k _ (slice_get-get_or xs k d less)

  pub option_map_some : (f : A → B) (o : Option A) (y : B) → option_map f o ≡ Some y → (x : A) × (o ≡ Some x) × (f x ≡ y)
  option_map_some f None y e = cc
  option_map_some f (Some x) y e = (x, refl, cc)

  pub map_slice_get : (f : A → B) (xs : List A) (k : ℕ) (y : B) → slice_get (map f xs) k ≡ Some y → (x : A) × (slice_get xs k ≡ Some x) × (f x ≡ y)
  map_slice_get f xs k y is = option_map_some f (slice_get xs k) y (sym (slice_get-map f xs k) ∙ is)

  pub any-map : (p : B → Bool) (f : A → B) (xs : List A) → list_any p (map f xs) ≡ list_any (λ x. p (f x)) xs
  any-map p f [] = refl
  any-map p f (x ∷ xs) = rw (any-map p f xs) refl

  pub flat_map_same : (f g : A → List B) (xs : List A) → ((x : A) → f x ≡ g x) → flat_map f xs ≡ flat_map g xs
  flat_map_same f g [] same = refl
  flat_map_same f g (x ∷ xs) same = rw (same x, flat_map_same f g xs same) refl

  pub flat_map_push : (f : A → List B) (xs : List A) (x : A) → flat_map f (xs ++ x ∷ []) ≡ flat_map f xs ++ f x
  flat_map_push f xs x = sym (flat_map_more f [] xs x)

  pub filter-flat_map : (p : B → Bool) (f : A → List B) (xs : List A) → filter p (flat_map f xs) ≡ flat_map (λ x. filter p (f x)) xs
  filter-flat_map p f [] = refl
  filter-flat_map p f (x ∷ xs) = filter-append p (f x) (flat_map f xs) ∙ ap (λ ys. filter p (f x) ++ ys) (filter-flat_map p f xs)

  pub flat_map-flat_map : {C : Type 0} (g : B → List C) (f : A → List B) (xs : List A) → flat_map g (flat_map f xs) ≡ flat_map (λ x. flat_map g (f x)) xs
  flat_map-flat_map g f [] = refl
  flat_map-flat_map g f (x ∷ xs) = flat_map-append g (f x) (flat_map f xs) ∙ ap (λ ys. flat_map g (f x) ++ ys) (flat_map-flat_map g f xs)

  -- ---- pairs
  pub zip_get_or : (R : A → B → Type 0) (xs : List A) (ys : List B) (k : ℕ) (d : A) (e : B) → AllZip R xs ys → k < length xs → R (get_or xs k d) (get_or ys k e)
  zip_get_or R [] ys k d e all less = absurd (omega arith)
  zip_get_or R (x ∷ xs) [] k d e all less = absurd all
  zip_get_or R (x ∷ xs) (y ∷ ys) zero d e all less = all.0
  zip_get_or R (x ∷ xs) (y ∷ ys) (suc k) d e all less = zip_get_or R xs ys k d e all.1 (omega arith)

  pub zip_map_same : {C : Type 0} (R : A → B → Type 0) (f : A → C) (g : B → C) → ((x : A) (y : B) → R x y → f x ≡ g y) → (xs : List A) (ys : List B) → AllZip R xs ys → map f xs ≡ map g ys
  zip_map_same R f g same [] [] all = refl
  zip_map_same R f g same [] (y ∷ ys) all = absurd all
  zip_map_same R f g same (x ∷ xs) [] all = absurd all
  zip_map_same R f g same (x ∷ xs) (y ∷ ys) all = ap₂ (λ z zs. z ∷ zs) (same x y all.0) (zip_map_same R f g same xs ys all.1)

  pub length_zip : (R : A → B → Type 0) (xs : List A) (ys : List B) → AllZip R xs ys → length xs ≡ length ys
  length_zip R [] [] all = refl
  length_zip R [] (y ∷ ys) all = absurd all
  length_zip R (x ∷ xs) [] all = absurd all
  length_zip R (x ∷ xs) (y ∷ ys) all = ap suc (length_zip R xs ys all.1)

-- lists with the same images
pub length_same_images : {A B C : Type 0} (f : A → C) (g : B → C) (xs : List A) (ys : List B) → map f xs ≡ map g ys → length xs ≡ length ys
length_same_images f g xs ys same = sym (length-map xs f) ∙ ap length same ∙ length-map ys g

pub same_image_at : {A B C : Type 0} (f : A → C) (g : B → C) (xs : List A) (ys : List B) (k : ℕ) (d : A) (y : B) → map f xs ≡ map g ys → slice_get ys k ≡ Some y → f (get_or xs k d) ≡ g y
same_image_at f g xs ys k d y same is =
    let (x, is', e) = map_slice_get f xs k (g y) (ap (λ zs. slice_get zs k) same ∙ slice_get-map_some g ys k y is) in
    ap f (get_or_from_slice_get xs k x d is') ∙ e

module _ {A B : Type 0} (R : A → B → Type 0) where
  pub zip_push : (xs : List A) (ys : List B) (x : A) (y : B) → AllZip R xs ys → R x y → AllZip R (xs ++ x ∷ []) (ys ++ y ∷ [])
  zip_push [] [] x y all last = (last, tt)
  zip_push [] (z ∷ zs) x y all last = absurd all
  zip_push (w ∷ ws) [] x y all last = absurd all
  zip_push (w ∷ ws) (z ∷ zs) x y all last = (all.0, zip_push ws zs x y all.1 last)

  zip_set : (xs : List A) (ys : List B) (i : ℕ) (x : A) (y : B) → AllZip R xs ys → R x y → AllZip R (set xs i x) (set ys i y)
  zip_set [] [] i x y all r = all
  zip_set [] (z ∷ zs) i x y all r = absurd all
  zip_set (w ∷ ws) [] i x y all r = absurd all
  zip_set (w ∷ ws) (z ∷ zs) zero x y all r = (r, all.1)
  zip_set (w ∷ ws) (z ∷ zs) (suc i) x y all r = (all.0, zip_set ws zs i x y all.1 r)

  pub zip_swap : (xs : List A) (ys : List B) (i j : ℕ) (d : A) (e : B) → i < length ys → j < length ys → AllZip R xs ys → AllZip R (swap xs i j) (swap ys i j)
  zip_swap xs ys i j d e less_i less_j all =
      let same = length_zip R xs ys all in
      let in_i : i < length xs = omega arith in
      let in_j : j < length xs = omega arith in
      let swapped = zip_set (set xs i (get_or xs j d)) (set ys i (get_or ys j e)) j (get_or xs i d) (get_or ys i e)
      (zip_set xs ys i (get_or xs j d) (get_or ys j e) all (zip_get_or R xs ys j d e all in_j)) (zip_get_or R xs ys i d e all in_i) in
      subst (λ (zs : List A). AllZip R zs (swap ys i j)) (swap_is xs i j d in_i in_j)
      (subst (λ (zs : List B). AllZip R (set (set xs i (get_or xs j d)) j (get_or xs i d)) zs) (swap_is ys i j e less_i less_j) swapped)

-- ---- ranges
pub range_more : (i n : ℕ) → i < n → range_with_len i (n - i) ≡ i ∷ range_with_len (i + 1) (n - (i + 1))
range_more i n less = let e : n - i ≡ suc (n - (i + 1)) = omega arith in ap (range_with_len i) e

pub range_none : (i n : ℕ) → n ≤ i → range_with_len i (n - i) ≡ []
range_none i n past = let e : n - i ≡ 0 = omega arith in ap (range_with_len i) e

pub any_range_more : (p : ℕ → Bool) (i n : ℕ) → i < n → list_any p (range_with_len i (n - i)) ≡ (p i || list_any p (range_with_len (i + 1) (n - (i + 1))))
any_range_more p i n less = rw (range_more i n less) refl

-- the list of what f gives for the numbers from k on
pub image_at_range : {A B : Type 0} (f : A → B) (g : ℕ → B) (xs : List A) (k n i : ℕ) (d : A) → map f xs ≡ map g (range_with_len k n) → i < n → f (get_or xs i d) ≡ g (k + i)
image_at_range f g xs k n i d same less =
    let long : length xs ≡ n = sym (length-map xs f) ∙ ap length same ∙ length-map-range_with_len g k n in
    sym (get_or-map f xs i d (f d) (omega arith)) ∙ ap (λ ys. get_or ys i (f d)) same ∙ get_or-map-range_with_len g k n i (k + i) (f d) less refl

-- what f gives at i, where it gives nothing at the other numbers
pub flat_map_range_past : {A : Type 0} (f : ℕ → List A) (i k n : ℕ) → i < k → flat_map (λ j. cond (eqb j i) (f j) []) (range_with_len k n) ≡ []
flat_map_range_past f i k zero less = refl
flat_map_range_past f i k (suc n) less = let other : eqb k i ≡ false = grind (arith, nat_tests) in rw other (flat_map_range_past f i (k + 1) n (omega arith))

pub flat_map_range_at : {A : Type 0} (f : ℕ → List A) (i k n : ℕ) → k ≤ i → i < k + n → flat_map (λ j. cond (eqb j i) (f j) []) (range_with_len k n) ≡ f i
flat_map_range_at f i k zero from below = absurd (omega arith)
flat_map_range_at f i k (suc n) from below = elim (cases_eq k i) [
  | inl same ↦ let e : eqb k i ≡ true = grind (arith, nat_tests) in rw (e, flat_map_range_past f i (k + 1) n (omega arith)) (append-nil (f k) ∙ ap f same)
  | inr differ ↦ let e : eqb k i ≡ false = grind (arith, nat_tests) in rw e (flat_map_range_at f i (k + 1) n (omega arith) (omega arith))
]

-- a value for each number below n, in a list
pub choose_below : {B : Type 0} (Q : ℕ → B → Type 0) (n : ℕ) → ((i : ℕ) → i < n → (b : B) × Q i b) → (xs : List B) × (length xs ≡ n) × ((i : ℕ) (b : B) → slice_get xs i ≡ Some b → Q i b)
choose_below Q zero each = ([], refl, λ i b is. cc)
choose_below {B} Q (suc n) each = let (b, q) = each 0 (omega arith) in let (xs, long, rest) = choose_below (λ i. Q (i + 1)) n (λ i less. each (i + 1) (omega arith)) in
    (b ∷ xs, omega arith, λ i c is. at i c b q xs rest is)
  where
    at : (i : ℕ) (c b : B) → Q 0 b → (xs : List B) → ((i : ℕ) (b : B) → slice_get xs i ≡ Some b → Q (i + 1) b) → slice_get (b ∷ xs) i ≡ Some c → Q i c
    at zero c b q xs rest is = let e : b ≡ c = cc in subst (Q 0) e q
    at (suc i) c b q xs rest is = rw (← add-one i) (rest i c is)

-- ---- lists of two, one place or the end, and the same at each place
module _ {A : Type 0} where
  pub two_of : (xs : List A) → length xs ≡ 2 → (x : A) × (y : A) × (xs ≡ x ∷ y ∷ [])
  two_of [] e = absurd (omega (arith, e))
  two_of (x ∷ []) e = absurd (omega (arith, e))
  two_of (x ∷ y ∷ []) e = (x, y, refl)
  two_of (x ∷ y ∷ z ∷ xs) e = absurd (omega (arith, e))

  pub place_cases : (xs : List A) (k : ℕ) → ((x : A) × (slice_get xs k ≡ Some x)) ⊎ (length xs ≤ k)
  place_cases xs k = elim (cases_lt k (length xs)) [ inl less ↦ inl (slice_get_below xs k less) | inr past ↦ inr past ]

  pub same_lists : (xs ys : List A) → length xs ≡ length ys → ((k : ℕ) (x y : A) → slice_get xs k ≡ Some x → slice_get ys k ≡ Some y → x ≡ y) → xs ≡ ys
  same_lists [] [] long each = refl
  same_lists [] (y ∷ ys) long each = absurd (omega (arith, long))
  same_lists (x ∷ xs) [] long each = absurd (omega (arith, long))
  same_lists (x ∷ xs) (y ∷ ys) long each =
      ap₂ (λ (z : A) (zs : List A). z ∷ zs) (each zero x y refl refl) (same_lists xs ys (omega (arith, long)) (λ k v w at there. each (suc k) v w at there))

  -- ---- fronts, and what is left
  -- a front of which a front is known
  pub split_front : (front xs ys : List A) (j k : ℕ) → k ≡ length front + j → take k xs ≡ front ++ ys → (xs ≡ front ++ drop (length front) xs) × (take j (drop (length front) xs) ≡ ys)
  split_front [] xs ys j k is e = (refl, let same : j ≡ k = omega (arith, is) in ap (λ (n : ℕ). take n xs) same ∙ e)
  split_front (f ∷ front) xs ys j zero is e = absurd (omega (arith, is))
  split_front (f ∷ front) [] ys j (suc k) is e = absurd (cc)
  split_front (f ∷ front) (x ∷ xs) ys j (suc k) is e =
      let less : k ≡ length front + j = omega (arith, is) in
      let first : x ≡ f = cc in
      let rest : take k xs ≡ front ++ ys = cc in
      let again = split_front front xs ys j k less rest in
      (ap (λ (y : A). y ∷ xs) first ∙ ap (λ (zs : List A). f ∷ zs) again.0, again.1)

  -- a front, counted from the end
  pub take_but_last : (xs ys zs : List A) (n k : ℕ) → zs ≡ xs ++ ys → n ≡ length zs → k ≡ length ys → take (n - k) zs ≡ xs
  take_but_last xs ys zs n k is long last =
      let first : n - k ≡ length xs = omega (arith, long, last, ap length is, length-append xs ys) in
      (λ i. take (first i) (is i)) ∙ take-append_seam xs ys

  -- the first that is left
  pub next_dropped : (n : ℕ) (xs : List A) (x : A) (rest : List A) → drop n xs ≡ x ∷ rest → (slice_get xs n ≡ Some x) × (rest ≡ drop (n + 1) xs)
  next_dropped n xs x rest is =
      let within = drop-cons_within n xs x x rest is in
      (slice_get_read_as xs xs n x refl within.0 (sym within.1), sym (drop_past n xs (x ∷ []) rest is))
