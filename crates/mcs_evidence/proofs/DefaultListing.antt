-- It is decided which sets of defaults generate an extension, and so what a default theory accepts has a listing.
use Rattle.std.proofs.Common.{◌≡◌, ℕ, ◌<◌, ◌^◌, true, false, List, length, IsTrue, sym, subst, inl, inr, ◌⊎◌, arith}
use Rattle.std.proofs.lemmas.Bool.{cases_eq, cases_lt}
use Rattle.mcs_sets.specs.Sets.{has, Within}
use Rattle.mcs_sets.specs.Orders.{StateBefore}
use Rattle.mcs_sets.proofs.SetLemmas.{Within-le}
use Rattle.mcs_sets.proofs.Lattice.{cases_within}
use Rattle.mcs_base.specs.Listings.{IsListing}
use Rattle.mcs_base.proofs.Booleans.{test_of, test_of-tells, cases_all_below}
use Rattle.mcs_base.proofs.ListingLemmas.{states_of_test, IsListing-same}
use Rattle.mcs_system.specs.Plain.{Formula, Item, DefaultTheory}
use Rattle.mcs_system.specs.Logic.{Theory, Entails}
use Rattle.mcs_system.specs.Views.{Shows, IsAcceptedView}
use Rattle.mcs_evidence.specs.Defaults.{defaults_of, generated}
use Rattle.mcs_evidence.specs.Laws.{DefaultTheoriesHaveAListing}
use Rattle.mcs_system.proofs.Consequence.{one_set, cases_entails}
use Rattle.mcs_base.proofs.Deciding.{cases_not, cases_implies, cases_true, cases_false, cases_all_get, cases_some_below, places_where, has-places_where, places_where-lt}
use Rattle.mcs_evidence.specs.Theories.{IsApplicable, NoneSupported, AllApply, NoOtherApplies, Generates}
use Rattle.mcs_evidence.proofs.Extensions.{applicable_or_not, generated_view}

-- ---- whether a set generates an extension
module _ (items : List Item) (set : ℕ) where
  abbrev Below : ℕ → Type 0
  Below part = Within part set → ¬ NoneSupported items set part

  cases_applied : AllApply items set ⊎ (¬ AllApply items set)
  cases_applied = cases_all_get (λ k d. has set k ≡ true → IsApplicable (generated items set) d) (defaults_of items) (λ k d. cases_implies (cases_true (has set k)) (applicable_or_not (generated items set) d))

  cases_complete : NoOtherApplies items set ⊎ (¬ NoOtherApplies items set)
  cases_complete = cases_all_get (λ k d. has set k ≡ false → ¬ IsApplicable (generated items set) d) (defaults_of items) (λ k d. cases_implies (cases_false (has set k)) (cases_not (applicable_or_not (generated items set) d)))

  cases_supported : (part : ℕ) → NoneSupported items set part ⊎ (¬ NoneSupported items set part)
  cases_supported part = cases_all_get (λ k d. has set k ≡ true → has part k ≡ false → ¬ Entails (generated items part) d.pre) (defaults_of items)
      (λ k d. cases_implies (cases_true (has set k)) (cases_implies (cases_false (has part k)) (cases_not (cases_entails (generated items part) d.pre))))

  cases_grounded : ((part : ℕ) → part < set → Below part) ⊎ (¬ ((part : ℕ) → part < set → Below part))
  cases_grounded = cases_all_below Below set (λ part less. cases_implies (cases_within part set) (cases_not (cases_supported part)))

  cases_small : (n : ℕ) → (set < n) ⊎ (¬ (set < n))
  cases_small n = elim (cases_lt set n) [ inl less ↦ inl less | inr more ↦ inr (λ less. omega arith) ]

  generates_or_not : Generates items set ⊎ (¬ Generates items set)
  generates_or_not = elim (cases_small (2 ^ length (defaults_of items))) [
    | inr large ↦ inr (λ h. large h.inside)
    | inl inside ↦ elim cases_applied [
      | inr never ↦ inr (λ h. never h.applied)
      | inl applied ↦ elim cases_complete [
        | inr never ↦ inr (λ h. never h.complete)
        | inl complete ↦ elim cases_grounded [
          | inr never ↦ inr (λ h. never (λ part less within. h.grounded part within (λ same. omega arith)))
          | inl grounded ↦ inl (record { inside = inside; applied = applied; complete = complete; grounded = λ part within differ. grounded part (omega (arith, Within-le part set within)) within })
        ]
      ]
    ]
  ]

-- ---- the views
module _ (items : List Item) (beliefs : List Formula) where
  following : ℕ → ℕ
  following set = places_where (Entails (generated items set)) (cases_entails (generated items set)) beliefs

  following_shown : (set : ℕ) → Shows (Theory (generated items set)) beliefs (following set)
  unfolding following
  following_shown set k = has-places_where (Entails (generated items set)) (cases_entails (generated items set)) beliefs k

  following-lt : (set : ℕ) → following set < 2 ^ length beliefs
  unfolding following
  following-lt set = places_where-lt (Entails (generated items set)) (cases_entails (generated items set)) beliefs

  abbrev IsFollowing : ℕ → ℕ → Type 0
  IsFollowing places set = Generates items set × (places ≡ following set)

  abbrev IsViewOfSome : ℕ → Type 0
  IsViewOfSome places = (set : ℕ) × (set < 2 ^ length (defaults_of items)) × IsFollowing places set

  cases_following : (places set : ℕ) → IsFollowing places set ⊎ (¬ IsFollowing places set)
  cases_following places set = elim (generates_or_not items set) [
    | inr never ↦ inr (λ h. never h.0)
    | inl generates ↦ elim (cases_eq places (following set)) [ inl same ↦ inl (generates, same) | inr differ ↦ inr (λ h. differ h.1) ]
  ]

  cases_view : (places : ℕ) → IsViewOfSome places ⊎ (¬ IsViewOfSome places)
  cases_view places = cases_some_below (IsFollowing places) (2 ^ length (defaults_of items)) (cases_following places)

  views_listed : (outputs : List ℕ) × IsListing (IsAcceptedView (DefaultTheory items) beliefs) StateBefore outputs
  views_listed =
      let (xs, listing) = states_of_test (length beliefs) (λ places. test_of (cases_view places)) in
      (xs, IsListing-same StateBefore (λ places. (places < 2 ^ length beliefs) × IsTrue (test_of (cases_view places))) (IsAcceptedView (DefaultTheory items) beliefs) xs (λ places. (to places, from places)) listing)
    where
      to : (places : ℕ) → (places < 2 ^ length beliefs) × IsTrue (test_of (cases_view places)) → IsAcceptedView (DefaultTheory items) beliefs places
      to places (low, passes) =
          let (set, small, (generates, same)) = (test_of-tells (cases_view places)).0 passes in
          (generated_view items beliefs places).1 (set, generates, subst (Shows (Theory (generated items set)) beliefs) (sym same) (following_shown set))

      from : (places : ℕ) → IsAcceptedView (DefaultTheory items) beliefs places → (places < 2 ^ length beliefs) × IsTrue (test_of (cases_view places))
      from places view =
          let (set, generates, shown) = (generated_view items beliefs places).0 view in
          let same : places ≡ following set = one_set (Theory (generated items set)) beliefs places (following set) shown (following_shown set) in
          (subst (λ (n : ℕ). n < 2 ^ length beliefs) (sym same) (following-lt set), (test_of-tells (cases_view places)).1 (set, generates.inside, (generates, same)))

pub default_theories_listed : DefaultTheoriesHaveAListing
default_theories_listed items beliefs = views_listed items beliefs
