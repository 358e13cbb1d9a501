-- The images of a list, by what is read at an index.
use Rattle.std.proofs.Common.{◌≡◌, ℕ, ◌+◌, ◌<◌, List, [], ◌∷◌, ◌++◌, map, length, drop, get_or, slice_get, slice_set, Option, Some, sym, ap, ◌∙◌, subst, Bool, false, IsTrue, ◌-◌, ◌≤◌, ◌==◌, ◌↔◌, zero, suc, take, refl, append_assoc, add-one, arith, true≢false}
use Rattle.std.proofs.lemmas.List.{drop_more, map_push, map_more, append-nil, length-map}
use Rattle.std.proofs.lemmas.Option.{none-some, same_Some}
use Rattle.std.specs.List.{AllByRecursion, flat_map, range_with_len}
use Rattle.mcs_base.proofs.Each.{all_get}
use Rattle.mcs_base.proofs.Lists.{slice_get-map_at, slice_get-map_some}
use Rattle.std.proofs.lemmas.Bool.Decides.{nat_tests}
use Rattle.std.proofs.lemmas.List.FromFn.{map-range_with_len_more}

module _ {A B : Type 0} where
  pub all_from_map : (P : B → Type 0) (f : A → B) (xs : List A) → AllByRecursion P (map f xs) → AllByRecursion (λ x. P (f x)) xs
  all_from_map P f [] h = tt
  all_from_map P f (x ∷ xs) h = (h.0, all_from_map P f xs h.1)

  -- what holds of each image holds of that of the item at an index
  pub image_each_at : (P : B → Type 0) (f : A → B) (xs : List A) (i : ℕ) (d : A) → i < length xs → AllByRecursion P (map f xs) → P (f (get_or xs i d))
  image_each_at P f xs i d less all = all_get P (map f xs) i (f (get_or xs i d)) all (slice_get-map_at f xs i d less)

  pub image_each_read : (P : B → Type 0) (f : A → B) (xs : List A) (i : ℕ) (x : A) → i < length xs → x ≡ get_or xs i x → AllByRecursion P (map f xs) → P (f x)
  image_each_read P f xs i x less is all = subst P (ap f (sym is)) (image_each_at P f xs i x less all)

  pub slice_get-map_read : (f : A → B) (xs : List A) (i : ℕ) (x : A) → i < length xs → x ≡ get_or xs i x → slice_get (map f xs) i ≡ Some (f x)
  slice_get-map_read f xs i x less is = slice_get-map_at f xs i x less ∙ ap (λ y. Some (f y)) (sym is)

  -- the images from an index on
  pub map-drop_more : (f : A → B) (xs : List A) (i : ℕ) (x : A) → i < length xs → x ≡ get_or xs i x → map f (drop i xs) ≡ f x ∷ map f (drop (i + 1) xs)
  map-drop_more f xs i x less is = ap (map f) (drop_more xs i x less) ∙ ap (λ y. f y ∷ map f (drop (i + 1) xs)) (sym is)

  -- those of a list that is one with one more
  pub map_push_as : (f : A → B) (xs ys : List A) (x : A) → ys ≡ xs ++ x ∷ [] → map f ys ≡ map f xs ++ f x ∷ []
  map_push_as f xs ys x e = ap (map f) e ∙ map_push f xs x

pub all_drop_parts : {A : Type 0} (P : A → Type 0) (xs : List A) (i : ℕ) (x : A) → i < length xs → x ≡ get_or xs i x → AllByRecursion P (drop i xs) → P x × AllByRecursion P (drop (i + 1) xs)
all_drop_parts P xs i x less is all = subst (AllByRecursion P) (drop_more xs i x less ∙ ap (λ y. y ∷ drop (i + 1) xs) (sym is)) all

-- the images up to an index, and that of the item there
pub map-take_read : {A B : Type 0} (f : A → B) (xs : List A) (i : ℕ) (x : A) → i < length xs → x ≡ get_or xs i x → map f (take (i + 1) xs) ≡ map f (take i xs) ++ f x ∷ []
map-take_read f xs i x less is = map_more f xs i x less ∙ ap (λ y. map f (take i xs) ++ f y ∷ []) (sym is)

-- what has no images is empty
pub no_images : {A B : Type 0} (f : A → B) (xs : List A) (b : Bool) → b ≡ (length xs == 0) → IsTrue b ↔ (map f xs ≡ [])
no_images f [] b e = (λ _. refl, λ _. e)
no_images f (x ∷ xs) b e = (
  λ holds. (let no : (length (x ∷ xs) == 0) ≡ false = grind (arith, nat_tests) in absurd (true≢false (sym holds ∙ e ∙ no))),
  λ none. absurd (let impossible : f x ∷ map f xs ≡ [] = none in cc),
)

-- the images of a list that are those of the numbers from 0 on, with one more
pub map-range_grows : {A B : Type 0} (f : A → B) (g : ℕ → B) (xs ys : List A) (x : A) (j : ℕ) → ys ≡ xs ++ x ∷ [] → f x ≡ g j → map f xs ≡ map g (range_with_len 0 j) → map f ys ≡ map g (range_with_len 0 (j + 1))
map-range_grows f g xs ys x j grown same is =
    map_push_as f xs ys x grown ∙ ap (λ zs. zs ++ f x ∷ []) is ∙ ap (λ y. map g (range_with_len 0 j) ++ y ∷ []) same ∙ sym (map-range_with_len_more g 0 j j (omega arith))

-- the same from 2 on, after a start
pub map-range_grows_from_2 : {A B : Type 0} (f : A → B) (g : ℕ → B) (start : List B) (xs ys : List A) (x : A) (j : ℕ) → 2 ≤ j → ys ≡ xs ++ x ∷ [] → f x ≡ g j → map f xs ≡ start ++ map g (range_with_len 2 (j - 2))
    → map f ys ≡ start ++ map g (range_with_len 2 (j + 1 - 2))
map-range_grows_from_2 f g start xs ys x j low grown same is =
    let next : j - 2 + 1 ≡ j + 1 - 2 = omega arith in
    let here : 2 + (j - 2) ≡ j = omega arith in
    map_push_as f xs ys x grown ∙ ap (λ zs. zs ++ f x ∷ []) is ∙ append_assoc start (map g (range_with_len 2 (j - 2))) (f x ∷ [])
    ∙ ap (λ zs. start ++ zs) (ap (λ y. map g (range_with_len 2 (j - 2)) ++ y ∷ []) same ∙ sym (map-range_with_len_more g 2 (j - 2) j here) ∙ ap (λ k. map g (range_with_len 2 k)) next)

-- what the numbers of a range give, with one more
pub flat_map-range_more : {A : Type 0} (f : ℕ → List A) (a n j : ℕ) → a + n ≡ j → flat_map f (range_with_len a (n + 1)) ≡ flat_map f (range_with_len a n) ++ f j
flat_map-range_more f a n j e = rw add-one (grown a n e)
  where
    grown : (a n : ℕ) → a + n ≡ j → flat_map f (range_with_len a (suc n)) ≡ flat_map f (range_with_len a n) ++ f j
    grown a zero e = let same : a ≡ j = omega arith in append-nil (f a) ∙ ap f same
    grown a (suc n) e = ap (λ xs. f a ++ xs) (grown (a + 1) n (omega arith)) ∙ sym (append_assoc (f a) (flat_map f (range_with_len (a + 1) n)) (f j))

-- ---- no image, the next one, and one image of each
pub none_mapped : {A B : Type 0} (f : A → B) (xs : List A) → map f xs ≡ [] → xs ≡ []
none_mapped f [] e = refl
none_mapped f (x ∷ xs) e = absurd (let long = ap (λ (ys : List _). length ys) e in omega (arith, long))

-- where an item stands next among all, its image does among all images
pub next_image : {A B : Type 0} (f : A → B) (all before : List A) (x : A) → slice_get all (length before) ≡ Some x → slice_get (map f all) (length (map f before)) ≡ Some (f x)
next_image f all before x at = ap (λ (k : ℕ). slice_get (map f all) k) (length-map before f) ∙ slice_get-map_some f all (length before) x at

-- lists that are as long, of which one has the same image throughout
pub copied_each : {A B C : Type 0} (f : A → C) (z : C) (xs : List A) (ys : List B) → length xs ≡ length ys → AllByRecursion (λ x. f x ≡ z) xs → map f xs ≡ map (λ y. z) ys
copied_each f z [] [] e each = refl
copied_each f z [] (y ∷ ys) e each = absurd (omega (arith, e))
copied_each f z (x ∷ xs) [] e each = absurd (omega (arith, e))
copied_each {C = C} f z (x ∷ xs) (y ∷ ys) e each =
    let rest : map f xs ≡ map (λ y. z) ys = copied_each f z xs ys (omega (arith, e)) each.1 in
    ap (λ (c : C). c ∷ map f xs) each.0 ∙ ap (λ (cs : List C). z ∷ cs) rest

-- a list whose items are mapped in place, one after the other: one item more, and what stood there before
pub mapped_in_place : {A : Type 0} (f : A → A) (first now : List A) (k : ℕ) (a b : A) → now ≡ map f (take k first) ++ drop k first → slice_get now k ≡ Some a → b ≡ f a
    → (slice_set now k b ≡ map f (take (k + 1) first) ++ drop (k + 1) first) × (slice_get first k ≡ Some a)
mapped_in_place {A = A} f first now k a b is at image =
    let (set, there) = over first k (subst (λ (xs : List A). slice_get xs k ≡ Some a) is at) in
    (rw add-one (ap (λ (xs : List A). slice_set xs k b) is ∙ set), there)
  where
    over : (xs : List A) (j : ℕ) → slice_get (map f (take j xs) ++ drop j xs) j ≡ Some a
        → (slice_set (map f (take j xs) ++ drop j xs) j b ≡ map f (take (suc j) xs) ++ drop (suc j) xs) × (slice_get xs j ≡ Some a)
    over [] zero there = absurd (none-some a there)
    over [] (suc j) there = absurd (none-some a there)
    over (x ∷ xs) zero there = let one : x ≡ a = same_Some x a there in (ap (λ (z : A). z ∷ xs) (image ∙ ap f (sym one)), there)
    over (x ∷ xs) (suc j) there = let (set, at') = over xs j there in (ap (λ (zs : List A). f x ∷ zs) set, at')
