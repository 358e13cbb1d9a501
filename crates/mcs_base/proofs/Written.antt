-- Lists of which parts are read, written back, set or inserted, beyond std's lemmas.
use Rattle.std.proofs.Common.{◌≡◌, ◌≢◌, ℕ, ◌+◌, ◌<◌, zero, suc, Bool, ◌&&◌, List, [], ◌∷◌, ◌++◌, map, length, take, drop, get_or, set, slice_get, slice_set, Some, refl, sym, ap, ◌∙◌, inl, inr, ◌⊎◌, arith, ◌-◌, ◌≤◌}
use Rattle.std.proofs.lemmas.List.{append-nil, append_assoc, drop_all, take_all, take_more}
use Rattle.std.proofs.lemmas.List.Sums.{sum_by-cons}
use Rattle.std.specs.List.{list_all, sum_by}
use Rattle.std.proofs.Math.Seq.{take-add}
use Rattle.std.proofs.lemmas.Option.{slice_get_within, get_or_from_slice_get, none-some, same_Some}

module _ {A : Type 0} where
  -- ---- parts
  pub slice_get-take : (n : ℕ) (xs : List A) (i : ℕ) → i < n → slice_get (take n xs) i ≡ slice_get xs i
  slice_get-take zero xs i less = absurd (omega arith)
  slice_get-take (suc n) [] i less = refl
  slice_get-take (suc n) (x ∷ xs) zero less = refl
  slice_get-take (suc n) (x ∷ xs) (suc i) less = slice_get-take n xs i (omega arith)

  pub take_read : (xs : List A) (i : ℕ) (x : A) → i < length xs → x ≡ get_or xs i x → take (i + 1) xs ≡ take i xs ++ x ∷ []
  take_read xs i x less here = take_more xs i x less ∙ ap (λ y. take i xs ++ y ∷ []) (sym here)

  -- what is written back over a whole list is what is there
  pub written_back : (xs ys : List A) (n : ℕ) → length ys ≡ length xs → n ≡ length xs → take n (ys ++ drop (length ys) xs) ≡ ys
  written_back xs ys n long full = ap (λ zs. take n (ys ++ zs)) (drop_all (length ys) xs (omega (arith, long))) ∙ (ap (take n) (append-nil ys) ∙ take_all n ys (omega (arith, long, full)))

  -- ---- one place changed
  pub slice_get_set : (xs : List A) (i : ℕ) (y z : A) → slice_get (set xs i y) i ≡ Some z → z ≡ y
  slice_get_set [] i y z e = absurd (cc)
  slice_get_set (x ∷ xs) zero y z e = cc
  slice_get_set (x ∷ xs) (suc i) y z e = slice_get_set xs i y z e

  pub slice_get-set_other : (xs : List A) (i j : ℕ) (y : A) → j ≢ i → slice_get (set xs i y) j ≡ slice_get xs j
  slice_get-set_other [] i j y differ = refl
  slice_get-set_other (x ∷ xs) zero zero y differ = absurd (differ refl)
  slice_get-set_other (x ∷ xs) zero (suc j) y differ = refl
  slice_get-set_other (x ∷ xs) (suc i) zero y differ = refl
  slice_get-set_other (x ∷ xs) (suc i) (suc j) y differ = slice_get-set_other xs i j y (λ e. differ (ap suc e))

  pub slice_get-set_same : (xs : List A) (i : ℕ) (y : A) → i < length xs → slice_get (set xs i y) i ≡ Some y
  slice_get-set_same [] i y less = absurd (omega arith)
  slice_get-set_same (x ∷ xs) zero y less = refl
  slice_get-set_same (x ∷ xs) (suc i) y less = slice_get-set_same xs i y (omega arith)

  pub slice_get-slice_set : (xs : List A) (i j : ℕ) (y z : A) → slice_get (slice_set xs i y) j ≡ Some z → ((j ≡ i) × (z ≡ y)) ⊎ ((¬ (j ≡ i)) × (slice_get xs j ≡ Some z))
  slice_get-slice_set [] zero j y z is = absurd (cc)
  slice_get-slice_set [] (suc i) j y z is = absurd (cc)
  slice_get-slice_set (x ∷ xs) zero zero y z is = inl (refl, cc)
  slice_get-slice_set (x ∷ xs) zero (suc j) y z is = inr ((λ e. omega (arith, e)), is)
  slice_get-slice_set (x ∷ xs) (suc i) zero y z is = inr ((λ e. omega (arith, e)), is)
  slice_get-slice_set (x ∷ xs) (suc i) (suc j) y z is = elim (slice_get-slice_set xs i j y z is) [ inl h ↦ inl (ap suc h.0, h.1) | inr h ↦ inr ((λ e. h.0 (omega (arith, e))), h.1) ]

  pub length-slice_set : (xs : List A) (i : ℕ) (y : A) → length (slice_set xs i y) ≡ length xs
  length-slice_set [] zero y = refl
  length-slice_set [] (suc i) y = refl
  length-slice_set (x ∷ xs) zero y = refl
  length-slice_set (x ∷ xs) (suc i) y = ap suc (length-slice_set xs i y)

  -- ---- one more inside
  pub list_all-insert : (p : A → Bool) (xs ys : List A) (x : A) → list_all p (xs ++ x ∷ ys) ≡ (list_all p (xs ++ ys) && p x)
  list_all-insert p [] ys x = turned (p x) (list_all p ys)
    where
      turned : (u v : Bool) → (u && v) ≡ (v && u)
      turned u v = grind arith
  list_all-insert p (z ∷ xs) ys x = ap (λ (b : Bool). p z && b) (list_all-insert p xs ys x) ∙ grouped (p z) (list_all p (xs ++ ys)) (p x)
    where
      grouped : (u v w : Bool) → (u && (v && w)) ≡ ((u && v) && w)
      grouped u v w = grind arith

pub map-slice_set : {A B : Type 0} (f : A → B) (xs : List A) (i : ℕ) (y : A) → map f (slice_set xs i y) ≡ slice_set (map f xs) i (f y)
map-slice_set f [] zero y = refl
map-slice_set f [] (suc i) y = refl
map-slice_set f (x ∷ xs) zero y = refl
map-slice_set f (x ∷ xs) (suc i) y = ap (λ ys. f x ∷ ys) (map-slice_set f xs i y)

-- a list takes the place of an empty one
pub sum_of_lengths-slice_set : (lists : List (List ℕ)) (i : ℕ) (ys : List ℕ) → slice_get lists i ≡ Some [] → sum_by (λ (xs : List ℕ). length xs) (slice_set lists i ys) ≡ sum_by (λ (xs : List ℕ). length xs) lists + length ys
sum_of_lengths-slice_set [] i ys is = absurd (cc)
sum_of_lengths-slice_set (xs ∷ lists) zero ys is =
    let e : xs ≡ [] = cc in let none : length xs ≡ 0 = ap length e in
    omega (arith, none, sum_by-cons (λ (zs : List ℕ). length zs) xs lists, sum_by-cons (λ (zs : List ℕ). length zs) ys lists)
sum_of_lengths-slice_set (xs ∷ lists) (suc i) ys is =
    let rest = sum_of_lengths-slice_set lists i ys is in
    omega (arith, rest, sum_by-cons (λ (zs : List ℕ). length zs) xs lists, sum_by-cons (λ (zs : List ℕ). length zs) xs (slice_set lists i ys))

-- ---- pieces that are appended one after the other
pub append_five : {A : Type 0} (t a b c d e : List A) → ((((t ++ a) ++ b) ++ c) ++ d) ++ e ≡ t ++ (a ++ (b ++ (c ++ (d ++ e))))
append_five t a b c d e = simp append_assoc

pub append_seven : {A : Type 0} (t a b c d e f g : List A) → ((((((t ++ a) ++ b) ++ c) ++ d) ++ e) ++ f) ++ g ≡ t ++ (a ++ (b ++ (c ++ (d ++ (e ++ (f ++ g))))))
append_seven t a b c d e f g = simp append_assoc

-- the first items, with the next one
pub take_next : {A : Type 0} (xs : List A) (i : ℕ) (x : A) → slice_get xs i ≡ Some x → take (i + 1) xs ≡ take i xs ++ x ∷ []
take_next xs i x at = take_more xs i x (slice_get_within xs i x at) ∙ ap (λ y. take i xs ++ y ∷ []) (get_or_from_slice_get xs i x x at)

-- fewer of the first items are a front of more of them
pub take_front : {A : Type 0} (j k : ℕ) (xs : List A) → j ≤ k → (rest : List A) × (take k xs ≡ take j xs ++ rest)
take_front j k xs fewer = (
  take (k - j) (drop j xs),
  ap (λ n. take n xs) (let e : k ≡ j + (k - j) = omega arith in e) ∙ take-add j (k - j) xs,
)

pub append_in_middle : {A : Type 0} (a b c d : List A) → (a ++ b) ++ (c ++ d) ≡ a ++ ((b ++ c) ++ d)
append_in_middle a b c d = append_assoc a b (c ++ d) ∙ ap (λ t. a ++ t) (sym (append_assoc b c d))

-- ---- texts of three and of five parts
pub line_of_three : {A : Type 0} (t a b c : List A) → ((t ++ a) ++ b) ++ c ≡ t ++ ((a ++ b) ++ c)
line_of_three t a b c = simp append_assoc

pub line_of_five : {A : Type 0} (t a b c d e : List A) → ((((t ++ a) ++ b) ++ c) ++ d) ++ e ≡ t ++ ((a ++ (b ++ (c ++ d))) ++ e)
line_of_five t a b c d e = simp append_assoc

-- ---- one that is written at a place
-- the image of a list does not change where one element is replaced by another of the same image
pub image_kept : {A B : Type 0} (f : A → B) (xs : List A) (i : ℕ) (x y : A) → slice_get xs i ≡ Some x → f y ≡ f x → map f (slice_set xs i y) ≡ map f xs
image_kept f [] i x y is same = refl
image_kept f (a ∷ xs) zero x y is same = let e : a ≡ x = same_Some a x is in ap (λ b. b ∷ map f xs) (same ∙ ap f (sym e))
image_kept f (a ∷ xs) (suc i) x y is same = ap (λ bs. f a ∷ bs) (image_kept f xs i x y is same)

module _ {A : Type 0} where
  -- what was written stands there, and nothing else changed
  pub set_there : (xs : List A) (i : ℕ) (x y : A) → slice_get xs i ≡ Some x → slice_get (slice_set xs i y) i ≡ Some y
  set_there [] i x y is = absurd (none-some x is)
  set_there (a ∷ xs) zero x y is = refl
  set_there (a ∷ xs) (suc i) x y is = set_there xs i x y is

  pub set_other : (xs : List A) (i j : ℕ) (x y : A) → ¬ (j ≡ i) → slice_get xs j ≡ Some x → slice_get (slice_set xs i y) j ≡ Some x
  set_other [] i j x y differ is = is
  set_other (a ∷ xs) zero zero x y differ is = absurd (differ refl)
  set_other (a ∷ xs) zero (suc j) x y differ is = is
  set_other (a ∷ xs) (suc i) zero x y differ is = is
  set_other (a ∷ xs) (suc i) (suc j) x y differ is = set_other xs i j x y (λ e. differ (ap suc e)) is

  -- what is written back changes nothing
  pub set_back : (xs : List A) (i : ℕ) (x y : A) → slice_get xs i ≡ Some x → y ≡ x → slice_set xs i y ≡ xs
  set_back [] i x y is same = refl
  set_back (a ∷ xs) zero x y is same = let e : a ≡ x = same_Some a x is in ap (λ b. b ∷ xs) (same ∙ sym e)
  set_back (a ∷ xs) (suc i) x y is same = ap (λ bs. a ∷ bs) (set_back xs i x y is same)
