-- What rows say of some variables, and which states are among these.
use Rattle.std.proofs.Common.{◌≡◌, ◌∙◌, ◌<◌, ◌+◌, ℕ, Bool, false, IsTrue, Result, Ok, Err, is_ok, List, [], ◌∷◌, length, get_or, map, take, ◌++◌, sym, ap, subst, inl, inr, ◌↔◌, arith, true≢false}
use Rattle.std.proofs.lemmas.Bool.{cases_lt}
use Rattle.mcs_base.proofs.Written.{take_read}
use Rattle.std.proofs.lemmas.List.Sorted.{searchable_from_sorted}
use Rattle.std.specs.List.Sorted.{IsBinarySearchResult, IsNonDecreasingBy, IsSearchInRange}
use Rattle.std.specs.Ordering.{ordering_index, is_lt}
use Rattle.std.specs.declared.cmp.Ordering.TheVariants.{Less, Equal, Greater}
use Rattle.std.specs.declared.cmp.Ordering.{Ordering}
use Rattle.mcs_sets.specs.Orders.{StateBefore}
use Rattle.mcs_sets.specs.Sets.{common}
use Rattle.mcs_sets.proofs.SetLemmas.{StateBefore-asymmetric}
use Rattle.mcs_base.specs.Listings.{IsAmong, IsAscending, IsListing}
use Rattle.mcs_base.specs.StateOrder.{state_cmp, state_cmp_total, compared, equal_is, cmp-same}
use Rattle.mcs_base.proofs.Among.{among_at, place_among, among_map, map_among, among_push, among_left, among_right}
use Rattle.mcs_base.proofs.ListingLemmas.{ascending_at, IsListing-same}
use Rattle.mcs_table.specs.declared.row.Row.{Row}
use Rattle.mcs_table.specs.Fitting.{IsRowProjection}

-- ---- a search among states in order
not_less : (a b : ℕ) → StateBefore b a → is_lt (state_cmp a b) ≡ false
not_less a b before = elim (compared a b) [
  | inl (e, same) ↦ ap is_lt e
  | inr (inl (e, less)) ↦ absurd (StateBefore-asymmetric a b less before)
  | inr (inr (e, more)) ↦ ap is_lt e
]

rising : (xs : List ℕ) (x : ℕ) → IsAscending StateBefore xs → IsNonDecreasingBy (λ y. ordering_index (state_cmp y x)) xs
rising xs x up = searchable_from_sorted state_cmp_total (λ (y : ℕ). y) xs x (λ k d a b. not_less (get_or xs (k + 1) d) (get_or xs k d) (ascending_at StateBefore xs k (k + 1) d (omega arith) b up))

unlike : (a b : ℕ) → a ≡ b → (o : Ordering) → state_cmp a b ≡ o → ¬ (o ≡ Equal) → ⊥
unlike a b same o e not = not (sym e ∙ sym (cmp-same a b same))

pub found_state : (xs : List ℕ) (x : ℕ) → IsAscending StateBefore xs → (r : Result ℕ ℕ) → IsBinarySearchResult (λ y. state_cmp y x) xs r → IsSearchInRange r (length xs) → (b : Bool) → b ≡ is_ok r
    → IsTrue b ↔ IsAmong x xs
found_state xs x up (Ok i) found within b is = (λ h. subst (λ (z : ℕ). IsAmong z xs) (equal_is (get_or xs i x) x (found x)) (among_at xs i x within), λ h. is)
found_state xs x up (Err i) found within b is = (λ h. absurd (true≢false (sym h ∙ is)), λ h. absurd (apart h))
  where
    apart : IsAmong x xs → ⊥
    apart h =
        let (before, after) = found (rising xs x up) in
        let (k, below, same) = place_among xs x h in
        elim (cases_lt k i) [
          | inl less ↦ unlike (get_or xs k x) x (same x) Less (before k x (omega arith) less) (λ e. let no : Less ≡ Equal = e in cc)
          | inr past ↦ unlike (get_or xs k x) x (same x) Greater (after k x past below) (λ e. let no : Greater ≡ Equal = e in cc)
        ]

-- ---- what rows say
pub projections_listed : (rows : List Row) (set : ℕ) (projections next : List ℕ) → projections ≡ map (λ (r : Row). common r.state.values set) rows → IsListing (λ s. IsAmong s projections) StateBefore next → IsListing (IsRowProjection rows set) StateBefore next
projections_listed rows set projections next is listing = IsListing-same StateBefore (λ s. IsAmong s projections) (IsRowProjection rows set) next (λ s. (
  λ h. map_among (λ (r : Row). common r.state.values set) s rows (subst (IsAmong s) is h),
  λ (r, among, e). subst (λ (xs : List ℕ). IsAmong s xs) (sym is) (subst (λ (z : ℕ). IsAmong z (map (λ (r' : Row). common r'.state.values set) rows)) (sym e) (among_map (λ (r' : Row). common r'.state.values set) r rows among)),
)) listing

-- ---- the states that are kept
-- of the first k states those with one of the projections
abbrev pub AreProjected : List ℕ → ℕ → List ℕ → ℕ → List ℕ → Type 0
AreProjected projections set states k kept = (s : ℕ) → IsAmong s kept ↔ (IsAmong s (take k states) × IsAmong (common s set) projections)

module _ (projections : List ℕ) (set : ℕ) (states : List ℕ) (k x : ℕ) (less : k < length states) (here : x ≡ get_or states k x) (kept : List ℕ) (so_far : AreProjected projections set states k kept) where
  next : take (k + 1) states ≡ take k states ++ x ∷ []
  next = take_read states k x less here

  pub projected_more : IsAmong (common x set) projections → AreProjected projections set states (k + 1) (kept ++ x ∷ [])
  projected_more there s = (
    λ h. elim ((among_push s kept x).0 h) [
      | inl old ↦ let (among, is) = (so_far s).0 old in (subst (IsAmong s) (sym next) (among_left s (take k states) (x ∷ []) among), is)
      | inr e ↦ (subst (IsAmong s) (sym next) (among_right s (take k states) (x ∷ []) (inl e)), subst (λ (z : ℕ). IsAmong (common z set) projections) (sym e) there)
    ],
    λ (among, is). (among_push s kept x).1 (elim ((among_push s (take k states) x).0 (subst (IsAmong s) next among)) [ inl old ↦ inl ((so_far s).1 (old, is)) | inr e ↦ inr e ]),
  )

  pub projected_less : ¬ IsAmong (common x set) projections → AreProjected projections set states (k + 1) kept
  projected_less none s = (
    λ h. let (among, is) = (so_far s).0 h in (subst (IsAmong s) (sym next) (among_left s (take k states) (x ∷ []) among), is),
    λ (among, is). elim ((among_push s (take k states) x).0 (subst (IsAmong s) next among)) [
      | inl old ↦ (so_far s).1 (old, is)
      | inr e ↦ absurd (none (subst (λ (z : ℕ). IsAmong (common z set) projections) e is))
    ],
  )
