-- The place of a view among views that ascend.
use Rattle.std.proofs.Common.{◌≡◌, ℕ, ◌+◌, ◌<◌, ◌≤◌, Bool, true, false, not, ◌&&◌, List, [], ◌∷◌, inl, inr, length, get_or, take, drop, arith, refl, sym, ap, ◌∙◌, subst, true≢false}
use Rattle.std.proofs.lemmas.Bool.{and_from, eq-eqb, eqb-true, cases_lt, not_from_false, false_from_ne_true, cases_eq}
use Rattle.std.proofs.lemmas.List.{get_or-take, length-take}
use Rattle.std.specs.Prelude.{nat_eq}
use Rattle.std.specs.List.{AllByRecursion}
use Rattle.std.specs.List.Sorted.{IsPartitionedBy, IsPartitionPoint}
use Rattle.std.specs.Ordering.{is_lt}
use Rattle.std.specs.declared.cmp.Ordering.{Ordering}
use Rattle.std.specs.declared.cmp.Ordering.TheVariants.{Less, Equal, Greater}
use Rattle.mcs_sets.specs.Orders.{StateBefore}
use Rattle.mcs_sets.proofs.SetLemmas.{not_before_itself}
use Rattle.mcs_base.specs.Listings.{IsAmong, IsAscending}
use Rattle.mcs_base.specs.StateOrder.{state_cmp, less_is, cmp-before, StateBefore-transitive}
use Rattle.mcs_base.proofs.Among.{place_among, among_at, among_parts, among_drop_more, none_among_drop}
use Rattle.mcs_base.proofs.Ascending.{first_before}
use Rattle.mcs_base.proofs.Each.{all_among, all_from_among}
use Rattle.mcs_program.specs.Placing.{is_other}
use Rattle.mcs_base.proofs.ListingLemmas.{ascending_at}

-- the one comes before the other
abbrev pub comes_before : ℕ → ℕ → Bool
comes_before view v = is_lt (state_cmp v view)

pub before_test : (v view : ℕ) → comes_before view v ≡ true → StateBefore v view
before_test v view h = less_is v view (at (state_cmp v view) h)
  where
    at : (o : Ordering) → is_lt o ≡ true → o ≡ Less
    at Less h = refl
    at Equal h = absurd (true≢false (sym h))
    at Greater h = absurd (true≢false (sym h))

pub test_before : (v view : ℕ) → StateBefore v view → comes_before view v ≡ true
test_before v view h = ap is_lt (sym (cmp-before v view h))

pub parted : (view : ℕ) (xs : List ℕ) → IsAscending StateBefore xs → IsPartitionedBy (comes_before view) xs
parted view xs up i j d le less h = elim (cases_lt i j) [
  | inl before ↦ test_before (get_or xs i d) view (StateBefore-transitive (get_or xs i d) (get_or xs j d) view (ascending_at StateBefore xs i j d before less up) (before_test (get_or xs j d) view h))
  | inr past ↦ let same : i ≡ j = omega arith in ap (λ k. comes_before view (get_or xs k d)) same ∙ h
]

abbrev pub EndsAt : ℕ → List ℕ → ℕ → Type 0
EndsAt view xs i = IsPartitionPoint (λ v. comes_before view v ≡ true) (λ v. comes_before view v ≡ false) xs i

pub ends_before : (view : ℕ) (xs : List ℕ) (i : ℕ) → EndsAt view xs i → AllByRecursion (λ v. StateBefore v view) (take i xs)
ends_before view xs i point = all_from_among (λ v. StateBefore v view) (take i xs) (λ v among.
    let (k, less, is) = place_among (take i xs) v among in
    let bound : (k < i) × (k < length xs) = (omega (arith, length-take i xs), omega (arith, length-take i xs)) in
    subst (λ w. StateBefore w view) (sym (get_or-take i xs k v bound.0) ∙ is v) (before_test (get_or xs k v) view (point.0 k v (omega arith) bound.0)))

pub ends_after : (view : ℕ) (xs : List ℕ) (i : ℕ) → EndsAt view xs i → i < length xs → ¬ StateBefore (get_or xs i 0) view
ends_after view xs i point less h = true≢false (sym (test_before (get_or xs i 0) view h) ∙ point.1 i 0 (omega arith) less)

-- ---- whether a view is among those
none_is_other : (xs : List ℕ) (view : ℕ) → ¬ IsAmong view xs → is_other xs view ≡ true
none_is_other [] view none = refl
none_is_other (x ∷ xs) view none = and_from (not (nat_eq x view)) (is_other xs view)
    (not_from_false (nat_eq x view) (false_from_ne_true (nat_eq x view) (λ h. none (inl (sym (eqb-true x view h))))))
    (none_is_other xs view (λ h. none (inr h)))

one_is_not : (xs : List ℕ) (view : ℕ) → IsAmong view xs → is_other xs view ≡ false
one_is_not [] view none = absurd none
one_is_not (x ∷ xs) view (inl same) = ap (λ b. not b && is_other xs view) (eq-eqb x view (sym same))
one_is_not (x ∷ xs) view (inr there) = ap (λ b. not (nat_eq x view) && b) (one_is_not xs view there) ∙ none (not (nat_eq x view))
  where
    none : (b : Bool) → (b && false) ≡ false
    none true = refl
    none false = refl

module _ (xs : List ℕ) (view i : ℕ) (up : IsAscending StateBefore xs) (before : AllByRecursion (λ v. StateBefore v view) (take i xs)) where
  not_in_front : ¬ IsAmong view (take i xs)
  not_in_front h = not_before_itself view (all_among (λ v. StateBefore v view) (take i xs) view before h)

  pub past_all : length xs ≤ i → is_other xs view ≡ true
  past_all past = none_is_other xs view (λ h. elim (among_parts xs i view h) [ inl front ↦ not_in_front front | inr back ↦ none_among_drop xs i view past back ])

  pub at_place : i < length xs → (i < length xs → ¬ StateBefore (get_or xs i 0) view) → not (nat_eq (get_or xs i 0) view) ≡ is_other xs view
  at_place less after = elim (cases_eq (get_or xs i 0) view) [
    | inl same ↦ ap not (eq-eqb (get_or xs i 0) view same) ∙ sym (one_is_not xs view (subst (λ v. IsAmong v xs) same (among_at xs i 0 less)))
    | inr differ ↦ not_from_false (nat_eq (get_or xs i 0) view) (false_from_ne_true (nat_eq (get_or xs i 0) view) (λ h. differ (eqb-true (get_or xs i 0) view h)))
        ∙ sym (none_is_other xs view (λ h. elim (among_parts xs i view h) [
          | inl front ↦ not_in_front front
          | inr back ↦ elim ((among_drop_more xs i 0 less view).0 back) [
            | inl same ↦ differ (sym same)
            | inr later ↦ after less (all_among (StateBefore (get_or xs i 0)) (drop (i + 1) xs) view (first_before StateBefore xs i 0 less up) later)
          ]
        ]))
  ]
