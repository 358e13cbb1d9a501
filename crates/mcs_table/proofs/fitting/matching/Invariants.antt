use Rattle.std.proofs.Common.{take}
use Rattle.mcs_base.specs.Listings.{IsAmong, IsListing}
use Rattle.mcs_base.specs.Partials.{Fits}
use Rattle.mcs_table.specs.RowOrder.{RowBefore}
use Rattle.mcs_table.proofs.fitting.matching.Given as goal

abbrev pub invariant-loop-row : goal.invariant-loop-row
invariant-loop-row l = IsListing (λ r. IsAmong r (take l.row-index l.t.rows) × Fits r.state l.partial) RowBefore l.found.items
