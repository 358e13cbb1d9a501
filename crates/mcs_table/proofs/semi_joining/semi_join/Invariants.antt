use Rattle.std.proofs.Common.{take}
use Rattle.mcs_base.specs.Listings.{IsAmong, IsListing}
use Rattle.mcs_table.specs.RowOrder.{RowBefore}
use Rattle.mcs_table.specs.Tables.{HasPartner}
use Rattle.mcs_table.proofs.semi_joining.semi_join.Given as goal

abbrev pub invariant-loop-row : goal.invariant-loop-row
invariant-loop-row l = IsListing (λ r. IsAmong r (take l.row-index l.a.rows) × HasPartner l.b.rows l.level r) RowBefore l.rows.items
