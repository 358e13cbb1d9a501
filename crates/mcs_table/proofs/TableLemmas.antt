-- Tables: what their rows and scopes keep.
use Rattle.std.proofs.Common.{◌≡◌, ℕ, List, refl, sym, subst, lit<}
use Rattle.std.specs.declared.cmp.Ordering.TheVariants.{Less}
use Rattle.std.specs.List.{AllByRecursion}
use Rattle.mcs_base.specs.Listings.{IsAmong, IsListing}
use Rattle.mcs_base.specs.Partials.{IsPartial}
use Rattle.mcs_base.proofs.Each.{all_among, all_from_among}
use Rattle.mcs_table.specs.declared.row.Row.{Row}
use Rattle.mcs_table.specs.RowOrder.{RowBefore, row_cmp}
use Rattle.mcs_table.specs.Tables.{TableData, IsTable, IsRowOn, unit_table}
use Rattle.mcs_table.proofs.OrderLemmas.{listing_on_scope}

-- rows on one scope, listed by std's order
pub sorted_rows : (scope : ℕ) (xs ys : List Row) → AllByRecursion (λ (r : Row). r.state.mask ≡ scope) xs → IsListing (λ r. IsAmong r xs) (λ (a b : Row). row_cmp a b ≡ Less) ys → IsListing (λ r. IsAmong r xs) RowBefore ys
sorted_rows scope xs ys masks l = listing_on_scope scope (λ r. IsAmong r xs) ys (λ r among. all_among (λ (r : Row). r.state.mask ≡ scope) xs r masks among) l

pub table_of_rows : (scope : ℕ) (xs ys : List Row) → AllByRecursion (λ (r : Row). r.state.mask ≡ scope) xs → AllByRecursion (λ (r : Row). IsPartial r.state) xs → IsListing (λ r. IsAmong r xs) RowBefore ys → IsTable (record { scope = scope; rows = ys })
table_of_rows scope xs ys masks partial l = record {
  on_scope = all_from_among (IsRowOn scope) ys (λ r among. let there = (l.exactly r).0 among in record {
    mask = all_among (λ (r : Row). r.state.mask ≡ scope) xs r masks there;
    partial = all_among (λ (r : Row). IsPartial r.state) xs r partial there;
  });
  ascending = l.ascending;
}

pub unit-kept : IsTable unit_table
unit-kept = record {
  on_scope = (record { mask = refl; partial = record { of_mask = λ k h. h; small = lit< tt } }, tt);
  ascending = (tt, tt);
}

-- the same table by its parts
pub table_as : (t : TableData) (scope : ℕ) (items : List Row) → t.scope ≡ scope → items ≡ t.rows → IsTable t → IsTable (record { scope = scope; rows = items })
table_as t scope items same_scope same_items is =
    subst (λ (s : ℕ). IsTable (record { scope = s; rows = items })) same_scope (subst (λ (xs : List Row). IsTable (record { scope = t.scope; rows = xs })) (sym same_items) is)
