-- Tables without the rows whose marks hold one of some sets.
use Rattle.std.specs.Prelude.{◌≡◌, ℕ, List}
use Rattle.mcs_base.specs.Antichains.{HasOneWithin}
use Rattle.mcs_base.specs.Listings.{IsAmong, IsListing}
use Rattle.mcs_table.specs.RowOrder.{RowBefore}
use Rattle.mcs_table.specs.Tables.{TableData}

-- t has exactly the rows of the whole table within whose marks none of the sets lies
pub record IsWithout (sets : List ℕ) (whole t : TableData) : Type 0 where
  pub scope : t.scope ≡ whole.scope
  pub rows : IsListing (λ r. IsAmong r whole.rows × (¬ HasOneWithin sets r.marks)) RowBefore t.rows
