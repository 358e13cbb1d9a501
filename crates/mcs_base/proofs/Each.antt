-- What holds of each of a list.
use Rattle.std.proofs.Common.{◌≡◌, ℕ, ◌+◌, ◌<◌, Bool, true, false, List, [], ◌∷◌, ◌++◌, map, filter, length, take, drop, get_or, slice_get, Some, refl, sym, subst, inl, inr, ◌↔◌, ◌⊎◌, if◌then◌else◌}
use Rattle.std.proofs.lemmas.Bool.{and_parts, and_from}
use Rattle.std.proofs.lemmas.List.{take_more, drop_more, take-append-drop}
use Rattle.std.specs.List.{AllByRecursion, list_all, list_any}
use Rattle.std.proofs.lemmas.Option.{slice_get_read}
use Rattle.mcs_base.specs.Listings.{IsAmong}
use Rattle.mcs_base.proofs.Among.{among_get, filter_among, none_any}

module _ {A : Type 0} where
  pub all_among : (P : A → Type 0) (xs : List A) (x : A) → AllByRecursion P xs → IsAmong x xs → P x
  all_among P [] x all among = absurd among
  all_among P (y ∷ ys) x all (inl e) = subst P (sym e) all.0
  all_among P (y ∷ ys) x all (inr among) = all_among P ys x all.1 among

  pub all_from_among : (P : A → Type 0) (xs : List A) → ((x : A) → IsAmong x xs → P x) → AllByRecursion P xs
  all_from_among P [] each = tt
  all_from_among P (x ∷ xs) each = (each x (inl refl), all_from_among P xs (λ y among. each y (inr among)))

  pub all_get : (P : A → Type 0) (xs : List A) (k : ℕ) (x : A) → AllByRecursion P xs → slice_get xs k ≡ Some x → P x
  all_get P xs k x all is = all_among P xs x all (among_get x xs k is)

  pub all_weaker : (P Q : A → Type 0) → ((x : A) → P x → Q x) → (xs : List A) → AllByRecursion P xs → AllByRecursion Q xs
  all_weaker P Q each [] all = tt
  all_weaker P Q each (x ∷ xs) all = (each x all.0, all_weaker P Q each xs all.1)

  pub all_both : (P Q : A → Type 0) (xs : List A) → AllByRecursion P xs → AllByRecursion Q xs → AllByRecursion (λ x. P x × Q x) xs
  all_both P Q [] all all' = tt
  all_both P Q (x ∷ xs) all all' = ((all.0, all'.0), all_both P Q xs all.1 all'.1)

  -- ---- one list after another
  pub all_append : (P : A → Type 0) (xs ys : List A) → AllByRecursion P xs → AllByRecursion P ys → AllByRecursion P (xs ++ ys)
  all_append P [] ys all all' = all'
  all_append P (x ∷ xs) ys all all' = (all.0, all_append P xs ys all.1 all')

  pub all_left : (P : A → Type 0) (xs ys : List A) → AllByRecursion P (xs ++ ys) → AllByRecursion P xs
  all_left P [] ys all = tt
  all_left P (x ∷ xs) ys all = (all.0, all_left P xs ys all.1)

  pub all_right : (P : A → Type 0) (xs ys : List A) → AllByRecursion P (xs ++ ys) → AllByRecursion P ys
  all_right P [] ys all = all
  all_right P (x ∷ xs) ys all = all_right P xs ys all.1

  pub all_push : (P : A → Type 0) (xs : List A) (x : A) → AllByRecursion P xs → P x → AllByRecursion P (xs ++ x ∷ [])
  all_push P xs x all last = all_append P xs (x ∷ []) all (last, tt)

  pub all_take_more : (P : A → Type 0) (xs : List A) (k : ℕ) (x : A) → k < length xs → x ≡ get_or xs k x → AllByRecursion P (take k xs) → P x → AllByRecursion P (take (k + 1) xs)
  all_take_more P xs k x less is all last = rw (take_more xs k x less, ← is) (all_push P (take k xs) x all last)

  pub all_drop_more : (P : A → Type 0) (xs : List A) (k : ℕ) (x : A) → k < length xs → x ≡ get_or xs k x → P x → AllByRecursion P (drop (k + 1) xs) → AllByRecursion P (drop k xs)
  all_drop_more P xs k x less is first all = rw (drop_more xs k x less) (subst P is first, all)

  pub all_drop : (P : A → Type 0) (xs : List A) (k : ℕ) → AllByRecursion P xs → AllByRecursion P (drop k xs)
  all_drop P xs k all = all_right P (take k xs) (drop k xs) (subst (AllByRecursion P) (sym (take-append-drop k xs)) all)

  -- ---- tests
  pub all_filter : (P : A → Type 0) (p : A → Bool) (xs : List A) → AllByRecursion P xs → AllByRecursion P (filter p xs)
  all_filter P p xs all = all_from_among P (filter p xs) (λ x h. all_among P xs x all (filter_among p x xs h).0)

  pub all_by_test : (P : A → Type 0) (p : A → Bool) (xs : List A) → ((x : A) → IsAmong x xs → P x ↔ (p x ≡ true)) → AllByRecursion P xs ↔ (list_all p xs ≡ true)
  all_by_test P p [] same = (λ _. refl, λ _. tt)
  all_by_test P p (x ∷ xs) same = let here = same x (inl refl) in let rest = all_by_test P p xs (λ y h. same y (inr h)) in (
    λ all. and_from (p x) (list_all p xs) (here.0 all.0) (rest.0 all.1),
    λ e. let both = and_parts (p x) (list_all p xs) e in (here.1 both.0, rest.1 both.1),
  )

  pub all_from_no_any : (P : A → Type 0) (p : A → Bool) → ((x : A) → p x ≡ false → P x) → (xs : List A) → list_any p xs ≡ false → AllByRecursion P xs
  all_from_no_any P p each xs none = all_from_among P xs (λ x h. each x (none_any p xs x none h))

pub all_map : {A B : Type 0} (f : A → B) (P : A → Type 0) (Q : B → Type 0) → ((x : A) → P x → Q (f x)) → (xs : List A) → AllByRecursion P xs → AllByRecursion Q (map f xs)
all_map f P Q each [] all = tt
all_map f P Q each (x ∷ xs) all = (each x all.0, all_map f P Q each xs all.1)

pub all_take : {A : Type 0} (P : A → Type 0) (k : ℕ) (xs : List A) → AllByRecursion P xs → AllByRecursion P (take k xs)
all_take P k xs all = all_left P (take k xs) (drop k xs) (subst (AllByRecursion P) (sym (take-append-drop k xs)) all)

-- ---- one that is read, one more if there is one, and each or else
pub all_read : {A : Type 0} (P : A → Type 0) (xs : List A) (i : ℕ) (x : A) → i < length xs → x ≡ get_or xs i x → AllByRecursion P xs → P x
all_read P xs i x less is all = all_get P xs i x all (slice_get_read xs (length xs) i x refl less is)

pub all_pushed : {A : Type 0} (P : A → Type 0) (b : Bool) (xs : List A) (x : A) → AllByRecursion P xs → P x → AllByRecursion P (if b then xs ++ x ∷ [] else xs)
all_pushed P true xs x all is = all_push P xs x all is
all_pushed P false xs x all is = all

-- each of the list has P, or else H holds
pub all_or : {A : Type 0} (P : A → Type 0) (H : Type 0) (xs : List A) → ((x : A) → IsAmong x xs → P x ⊎ H) → ((x : A) → IsAmong x xs → P x) ⊎ H
all_or P H [] f = inl (λ x h. absurd h)
all_or P H (x ∷ xs) f = elim (f x (inl refl)) [
  | inl here ↦ elim (all_or P H xs (λ y h. f y (inr h))) [
    | inl rest ↦ inl (λ y h. elim h [ inl e ↦ subst P (sym e) here | inr later ↦ rest y later ])
    | inr other ↦ inr other
  ]
  | inr other ↦ inr other
]

-- what holds of two holds of each of the list of the two
pub each_of_two : {A : Type 0} (P : A → Type 0) (x y : A) → P x → P y → (i : ℕ) (z : A) → slice_get (x ∷ y ∷ []) i ≡ Some z → P z
each_of_two P x y here there i z at = all_get P (x ∷ y ∷ []) i z (here, (there, tt)) at
