-- What is left where states that fit no row of some tables go.
use Rattle.std.proofs.Common.{◌≡◌, ◌∙◌, ◌+◌, ◌<◌, ℕ, Bool, true, false, List, [], ◌∷◌, length, get_or, take, refl, sym, ap, subst, ◌↔◌, arith, true≢false}
use Rattle.mcs_sets.specs.Orders.{StateBefore}
use Rattle.mcs_sets.specs.Sets.{has, common}
use Rattle.mcs_sets.proofs.SetLemmas.{same_set, has-common}
use Rattle.mcs_base.specs.Listings.{IsAmong, IsListing}
use Rattle.mcs_base.specs.Partials.{Fits}
use Rattle.mcs_base.proofs.Each.{all_among, all_left, all_right}
use Rattle.mcs_base.proofs.Written.{take_read}
use Rattle.mcs_table.specs.declared.row.Row.{Row}
use Rattle.mcs_table.specs.Fitting.{IsRowProjection, FitsSome, FitsEach, part_on, AreFittingStates}
use Rattle.mcs_table.specs.Tables.{TableData, IsTable, IsRowOn}

-- ---- one table
module _ (t : TableData) (is : IsTable t) (set s : ℕ) where
  projection_at : (r : Row) → IsRowOn t.scope r → Fits (part_on set s) r.state → (k : ℕ) (a b v : Bool) → has set k ≡ a → has t.scope k ≡ b → has r.state.values k ≡ v → has (common s (common set t.scope)) k ≡ has (common r.state.values set) k
  projection_at r on fit k false b v e e' e'' = grind (arith, has-common)
  projection_at r on fit k true true v e e' e'' = let same = fit k e (ap (λ (m : ℕ). has m k) on.mask ∙ e') in grind (arith, has-common)
  projection_at r on fit k true false false e e' e'' = grind (arith, has-common)
  projection_at r on fit k true false true e e' e'' = absurd (true≢false (sym (on.partial.of_mask k e'') ∙ ap (λ (m : ℕ). has m k) on.mask ∙ e'))

  -- what a row says that fits
  pub projection_where_fits : FitsSome (part_on set s) t.rows → IsRowProjection t.rows set (common s (common set t.scope))
  projection_where_fits (r, among, fit) = (r, among, same_set _ _ (λ k. projection_at r (all_among (IsRowOn t.scope) t.rows r is.on_scope among) fit k (has set k) (has t.scope k) (has r.state.values k) refl refl refl))

pub projection_step : (t : TableData) → IsTable t → (set : ℕ) (projections old new : List ℕ) → IsListing (IsRowProjection t.rows set) StateBefore projections
    → ((s : ℕ) → IsAmong s new ↔ (IsAmong s old × IsAmong (common s (common set t.scope)) projections)) → AreFittingStates set (t ∷ []) old new
projection_step t is set projections old new listing kept = record {
  from = λ s h. ((kept s).0 h).0;
  fitting = λ s among each. (kept s).1 (among, (listing.exactly (common s (common set t.scope))).1 (projection_where_fits t is set s each.0));
}

-- ---- one table after the other
pub fitting_same : (set : ℕ) (tables : List TableData) (states : List ℕ) → AreFittingStates set tables states states
fitting_same set tables states = record { from = λ s h. h; fitting = λ s among each. among }

pub fitting_more : (set : ℕ) (tables : List TableData) (k : ℕ) (t : TableData) → k < length tables → t ≡ get_or tables k t → (old mid new : List ℕ) → AreFittingStates set (take k tables) old mid → AreFittingStates set (t ∷ []) mid new → AreFittingStates set (take (k + 1) tables) old new
fitting_more set tables k t less here old mid new so_far step = subst (λ (ts : List TableData). AreFittingStates set ts old new) (sym (take_read tables k t less here)) (record {
  from = λ s h. so_far.from s (step.from s h);
  fitting = λ s among each.
      let F = λ (u : TableData). FitsSome (part_on set s) u.rows in
      step.fitting s (so_far.fitting s among (all_left F (take k tables) (t ∷ []) each)) (all_right F (take k tables) (t ∷ []) each);
})

-- ---- a row's own state
pub fits_on : (r : Row) (set s : ℕ) → ((k : ℕ) → has set k ≡ true → (has r.state.mask k ≡ true) × (has r.state.values k ≡ has s k)) → (rows : List Row) → FitsSome r.state rows → FitsSome (part_on set s) rows
fits_on r set s same rows (p, among, fit) = (
  p,
  among,
  λ k in_set in_mask. let (own, value) = same k in_set in let e = fit k own in_mask in grind (arith, has-common),
)

pub fits_each_on : (r : Row) (set s : ℕ) → ((k : ℕ) → has set k ≡ true → (has r.state.mask k ≡ true) × (has r.state.values k ≡ has s k)) → (tables : List TableData) → FitsEach r.state tables → FitsEach (part_on set s) tables
fits_each_on r set s same [] each = tt
fits_each_on r set s same (t ∷ ts) each = (fits_on r set s same t.rows each.0, fits_each_on r set s same ts each.1)
