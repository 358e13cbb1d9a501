-- What the rows of a table say of the variables that are kept.
use Rattle.std.proofs.Common.{◌≡◌, ℕ, List, map, sym, ap, ◌∙◌, subst, ◌↔◌}
use Rattle.std.specs.List.{AllByRecursion}
use Rattle.mcs_sets.specs.Sets.{common}
use Rattle.mcs_base.specs.Listings.{IsAmong, IsListing}
use Rattle.mcs_base.proofs.ListingLemmas.{IsListing-same}
use Rattle.mcs_base.proofs.Among.{map_among, among_map}
use Rattle.mcs_base.proofs.Each.{all_from_among}
use Rattle.mcs_table.specs.declared.row.Row.{Row}
use Rattle.mcs_table.specs.RowOrder.{RowBefore}
use Rattle.mcs_table.specs.Tables.{TableData, IsTable, IsMinimalRow, IsRestriction, IsForgetting, restricted_row}
use Rattle.mcs_table.proofs.JoinLemmas.{minimal_as, row_of}

pub restrictions : (xs : List Row) (keep : ℕ) (r : Row) → IsAmong r (map (λ (x : Row). restricted_row x keep) xs) ↔ IsRestriction xs keep r
restrictions xs keep r = (
  λ h. let (x, among, e) = map_among (λ (x : Row). restricted_row x keep) r xs h in record { row = x; among = among; is = e },
  λ u. subst (λ (s : Row). IsAmong s (map (λ (x : Row). restricted_row x keep) xs)) (sym u.is) (among_map (λ (x : Row). restricted_row x keep) u.row xs u.among),
)

pub restricted_masks : (t : TableData) → IsTable t → (keep : ℕ) → AllByRecursion (λ (r : Row). r.state.mask ≡ common t.scope keep) (map (λ (x : Row). restricted_row x keep) t.rows)
restricted_masks t is keep = all_from_among (λ (r : Row). r.state.mask ≡ common t.scope keep) (map (λ (x : Row). restricted_row x keep) t.rows) (λ r among.
    let u = (restrictions t.rows keep r).0 among in
    ap (λ (s : Row). s.state.mask) u.is ∙ ap (λ (m : ℕ). common m keep) (row_of t is u.row u.among).mask)

pub forgetting_of_rows : (t : TableData) (keep : ℕ) (f : TableData) → f.scope ≡ common t.scope keep → IsListing (IsMinimalRow (λ r. IsAmong r (map (λ (x : Row). restricted_row x keep) t.rows))) RowBefore f.rows → IsForgetting t keep f
forgetting_of_rows t keep f scope rows = record {
  scope = scope;
  rows = IsListing-same RowBefore _ _ f.rows (minimal_as _ (IsRestriction t.rows keep) (restrictions t.rows keep)) rows;
}
