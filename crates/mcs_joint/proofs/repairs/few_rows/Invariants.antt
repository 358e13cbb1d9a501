use Rattle.std.proofs.Common.{take, ◌≤◌}
use Rattle.mcs_sets.specs.Sets.{size}
use Rattle.mcs_base.specs.Listings.{IsAmong, IsListing}
use Rattle.mcs_table.specs.RowOrder.{RowBefore}
use Rattle.mcs_joint.proofs.repairs.few_rows.Given as goal

abbrev pub invariant-loop-row : goal.invariant-loop-row
invariant-loop-row l = IsListing (λ r. IsAmong r (take l.row-index l.table.rows) × (size r.marks ≤ l.level)) RowBefore l.rows.items
