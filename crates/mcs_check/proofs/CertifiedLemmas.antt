-- Finding an answer among those of ascending sets.
use Rattle.std.proofs.Common.{◌≡◌, ℕ, zero, suc, ◌<◌, ◌≤◌, List, [], ◌∷◌, length, get_or, take, Vec, Global, slice_get, Some, arith, sym, ap, ◌∙◌, subst, inl, inr, true≢false}
use Rattle.std.proofs.lemmas.Bool.{cases_lt}
use Rattle.std.proofs.lemmas.List.{get_or-map, length-map, get_or-take, length-take}
use Rattle.std.specs.List.Sorted.{IsPartitionedBy}
use Rattle.mcs_base.specs.Listings.{IsAmong, IsListing}
use Rattle.mcs_base.proofs.Among.{place_among, among_at}
use Rattle.mcs_base.proofs.Ascending.{before_at}
use Rattle.mcs_base.proofs.Each.{all_get}
use Rattle.mcs_base.proofs.Lists.{slice_get_below}
use Rattle.mcs_sets.specs.Orders.{StateBefore}
use Rattle.mcs_base.proofs.NumberCases.{less_test, test_less}
use Rattle.mcs_system.specs.Plain.{System}
use Rattle.mcs_system.specs.Systems.{IsAcceptedPart}
use Rattle.mcs_check.specs.Certified.{sets_of, is_set_before, AreAcceptedAnswers, AreAscendingSets, SetsEndAt, HasAnswer}

module _ {B : Type 0} (answers : List (ℕ × B)) (up : AreAscendingSets answers) where
  in_order : (i j : ℕ) (d : ℕ × B) → i < j → j < length answers → (get_or answers i d).0 < (get_or answers j d).0
  in_order i j d less bound =
      let long : length (sets_of answers) ≡ length answers = length-map answers (λ (a : ℕ × B). a.0) in
      let e : get_or (sets_of answers) i d.0 ≡ (get_or answers i d).0 = get_or-map (λ (a : ℕ × B). a.0) answers i d d.0 (omega arith) in
      let e' : get_or (sets_of answers) j d.0 ≡ (get_or answers j d).0 = get_or-map (λ (a : ℕ × B). a.0) answers j d d.0 bound in
      let before : get_or (sets_of answers) i d.0 < get_or (sets_of answers) j d.0 = before_at (λ (a b : ℕ). a < b) (sets_of answers) j d.0 (omega arith) up (get_or (sets_of answers) i d.0) (subst (λ (v : ℕ). IsAmong v (take j (sets_of answers))) (get_or-take j (sets_of answers) i d.0 less) (among_at (take j (sets_of answers)) i d.0 (omega (arith, length-take j (sets_of answers))))) in
      omega arith

  pub parted : (x : ℕ) → IsPartitionedBy (is_set_before x) answers
  parted x i j d le less h = elim (cases_lt i j) [
    | inl before ↦ less_test (get_or answers i d).0 x (let first = in_order i j d before less in let second = test_less (get_or answers j d).0 x h in omega arith)
    | inr past ↦ let same : i ≡ j = omega arith in ap (λ k. is_set_before x (get_or answers k d)) same ∙ h
  ]

  module _ (x n : ℕ) (point : SetsEndAt x answers n) where
    -- the set does not stand before the place, nor after it
    set_place : IsAmong x (sets_of answers) → (d : ℕ × B) → (n < length answers) × ((get_or answers n d).0 ≡ x)
    set_place among d =
        let (k, less, is) = place_among (sets_of answers) x among in
        let bound : k < length answers = omega (arith, length-map answers (λ (a : ℕ × B). a.0)) in
        let here : (get_or answers k d).0 ≡ x = sym (get_or-map (λ (a : ℕ × B). a.0) answers k d d.0 bound) ∙ is d.0 in
        elim (cases_lt k n) as (λ _. (n < length answers) × ((get_or answers n d).0 ≡ x)) [
          | inl before ↦ absurd (let small : (get_or answers k d).0 < x = test_less (get_or answers k d).0 x (point.0 k d (omega arith) before) in omega arith)
          | inr past ↦ elim (cases_lt n k) as (λ _. (n < length answers) × ((get_or answers n d).0 ≡ x)) [
            | inl later ↦ absurd (true≢false (sym (less_test (get_or answers n d).0 x (let first = in_order n k d later bound in omega arith)) ∙ point.1 n d (omega arith) (omega arith)))
            | inr not_later ↦ let same : k ≡ n = omega arith in (omega arith, ap (λ j. (get_or answers j d).0) (sym same) ∙ here)
          ]
        ]

    pub none_past : length answers ≤ n → ¬ IsAmong x (sets_of answers)
    none_past past among =
        let (k, less, is) = place_among (sets_of answers) x among in
        let (a, at) = slice_get_below answers k (omega (arith, length-map answers (λ (a : ℕ × B). a.0))) in
        let (bound, same) = set_place among a in
        omega arith

    pub none_other : (d : ℕ × B) → ¬ ((get_or answers n d).0 ≡ x) → ¬ IsAmong x (sets_of answers)
    none_other d differ among = let (less, is) = set_place among d in differ is

-- ---- what is answered
pub answer_is_right : (m : System) (i x : ℕ) (answers : List (ℕ × Vec ℕ Global)) (states : List ℕ) → AreAcceptedAnswers m i answers → HasAnswer answers x states → IsListing (IsAcceptedPart m i x) StateBefore states
answer_is_right m i x answers states right (k, a, at, set, items) =
    subst (λ (xs : List ℕ). IsListing (IsAcceptedPart m i x) StateBefore xs) items
    (subst (λ (y : ℕ). IsListing (IsAcceptedPart m i y) StateBefore a.1.items) set
    (all_get (λ (b : ℕ × Vec ℕ Global). IsListing (IsAcceptedPart m i b.0) StateBefore b.1.items) answers k a right at))

pub answer_is_held : (x : ℕ) (answers : List (ℕ × Vec ℕ Global)) (states : List ℕ) → HasAnswer answers x states → IsAmong x (sets_of answers)
answer_is_held x answers states (k, a, at, set, items) = held answers k at
  where
    held : (bs : List (ℕ × Vec ℕ Global)) (k : ℕ) → slice_get bs k ≡ Some a → IsAmong x (sets_of bs)
    held [] k is = cc
    held (b ∷ bs) zero is = inl (let same : b ≡ a = cc in sym (ap (λ (c : ℕ × Vec ℕ Global). c.0) same ∙ set))
    held (b ∷ bs) (suc k) is = inr (held bs k is)
