-- What names are in a list, and lists of names without repeats.
use Rattle.std.proofs.Common.{◌≡◌, Bool, true, false, not, ◌&&◌, List, [], ◌∷◌, ◌++◌, filter, Some, refl, sym, ap, ◌∙◌, inl, inr, ◌⊎◌, ◌↔◌, true≢false, ℕ, ◌<◌, length, get_or, slice_get}
use Rattle.std.proofs.lemmas.Bool.{and_parts, and_from, or_cases, or_left, or_right, or_parts, or_from, not_from_false, false_from_ne_true, cases_Bool}
use Rattle.std.proofs.lemmas.List.Folds.{list_any-append}
use Rattle.std.specs.Cmp.{both_ways}
use Rattle.std.specs.List.{flat_map, position}
use Rattle.std.proofs.lemmas.List.Quantifiers.{position-Some}
use Rattle.std.proofs.lemmas.Option.{slice_get-get_or}
use Rattle.mcs_base.specs.Listings.{IsAmong, AreApart}
use Rattle.mcs_base.proofs.Among.{among_any, among_filter, among_flat_map, among_get, any_get, filter_among}
use Rattle.mcs_base.proofs.Distinct.{distinct_filter}
use Rattle.mcs_system.specs.Plain.{Name}
use Rattle.mcs_system.specs.Logic.{same_name, is_in}
use Rattle.mcs_system.specs.Faults.{has_twins}
use Rattle.mcs_system.specs.Atoms.{first_names}
use Rattle.mcs_system.proofs.Sameness.{same_name-is, same_name-itself}

pub is_in-among : (n : Name) (xs : List Name) → (is_in n xs ≡ true) ↔ IsAmong n xs
is_in-among n xs = (
  λ e. let (k, x, at, same) = any_get (same_name n) xs e in among_get n xs k (at ∙ ap (λ y. Some y) (sym (same_name-is n x same))),
  λ h. among_any (same_name n) xs n h (same_name-itself n),
)

pub is_in_left : (n : Name) (xs ys : List Name) → is_in n xs ≡ true → is_in n (xs ++ ys) ≡ true
is_in_left n xs ys h = list_any-append (same_name n) xs ys ∙ or_left (is_in n xs) (is_in n ys) h

pub is_in_right : (n : Name) (xs ys : List Name) → is_in n ys ≡ true → is_in n (xs ++ ys) ≡ true
is_in_right n xs ys h = list_any-append (same_name n) xs ys ∙ or_right (is_in n xs) (is_in n ys) h

pub is_in_either : (n : Name) (xs ys : List Name) → is_in n (xs ++ ys) ≡ true → (is_in n xs ≡ true) ⊎ (is_in n ys ≡ true)
is_in_either n xs ys h = or_cases (is_in n xs) (is_in n ys) (sym (list_any-append (same_name n) xs ys) ∙ h)

pub is_in-filter : (p : Name → Bool) (n : Name) (xs : List Name) → is_in n (filter p xs) ≡ (is_in n xs && p n)
is_in-filter p n xs = both_ways _ _
    (λ e. let (there, passes) = filter_among p n xs ((is_in-among n (filter p xs)).0 e) in and_from (is_in n xs) (p n) ((is_in-among n xs).1 there) passes)
    (λ e. let (there, passes) = and_parts (is_in n xs) (p n) e in (is_in-among n (filter p xs)).1 (among_filter p n xs ((is_in-among n xs).0 there) passes))

pub is_in_flat_map : {A : Type 0} (f : A → List Name) (n : Name) (x : A) (xs : List A) → IsAmong x xs → is_in n (f x) ≡ true → is_in n (flat_map f xs) ≡ true
is_in_flat_map f n x xs h e = (is_in-among n (flat_map f xs)).1 (among_flat_map f x n xs h ((is_in-among n (f x)).0 e))

-- ---- where a name is first
pub position-below : (n : Name) (xs : List Name) (k : ℕ) → position (same_name n) xs ≡ Some k → k < length xs
position-below n xs k is = (position-Some (same_name n) xs k n is).0

pub position-there : (n : Name) (xs : List Name) (k : ℕ) → position (same_name n) xs ≡ Some k → slice_get xs k ≡ Some n
position-there n xs k is =
    let found = position-Some (same_name n) xs k n is in
    slice_get-get_or xs k n found.0 ∙ ap (λ x. Some x) (sym (same_name-is n (get_or xs k n) found.1))

-- ---- first occurrences
pub first_names-among : (n : Name) (xs : List Name) → IsAmong n (first_names xs) ↔ IsAmong n xs
first_names-among n [] = (λ h. h, λ h. h)
first_names-among n (x ∷ xs) = let rest = first_names-among n xs in (
  λ h. elim h [ inl e ↦ inl e | inr later ↦ inr (rest.0 (filter_among (λ y. not (same_name x y)) n (first_names xs) later).0) ],
  λ h. elim h [
    | inl e ↦ inl e
    | inr later ↦ elim (cases_Bool (same_name x n)) [
      | inl same ↦ inl (sym (same_name-is x n same))
      | inr other ↦ inr (among_filter (λ y. not (same_name x y)) n (first_names xs) (rest.1 later) (not_from_false (same_name x n) other))
    ]
  ],
)

pub is_in-first_names : (n : Name) (xs : List Name) → is_in n xs ≡ true → is_in n (first_names xs) ≡ true
is_in-first_names n xs h = (is_in-among n (first_names xs)).1 ((first_names-among n xs).1 ((is_in-among n xs).0 h))

pub first_names-distinct : (xs : List Name) → AreApart (first_names xs)
first_names-distinct [] = tt
first_names-distinct (x ∷ xs) = (
  λ h. true≢false (sym (filter_among (λ y. not (same_name x y)) x (first_names xs) h).1 ∙ ap not (same_name-itself x)),
  distinct_filter (λ y. not (same_name x y)) (first_names xs) (first_names-distinct xs),
)

pub no_twins : (xs : List Name) → (has_twins xs ≡ false) ↔ AreApart xs
no_twins [] = (λ e. tt, λ d. refl)
no_twins (x ∷ xs) = let rest = no_twins xs in (
  λ e. let (new, single) = or_parts (is_in x xs) (has_twins xs) e in (λ h. true≢false (sym ((is_in-among x xs).1 h) ∙ new), rest.0 single),
  λ d. or_from (is_in x xs) (has_twins xs) (false_from_ne_true (is_in x xs) (λ e. d.0 ((is_in-among x xs).0 e))) (rest.1 d.1),
)

pub first_names-single : (xs : List Name) → has_twins (first_names xs) ≡ false
first_names-single xs = (no_twins (first_names xs)).1 (first_names-distinct xs)
