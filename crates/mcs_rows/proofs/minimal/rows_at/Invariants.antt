use Rattle.std.proofs.Common.{take}
use Rattle.mcs_base.specs.Listings.{IsAmong}
use Rattle.mcs_table.specs.Tables.{Covers}
use Rattle.mcs_rows.specs.Nearest.{IsRowOfOne}
use Rattle.mcs_rows.proofs.minimal.rows_at.Given as goal

abbrev pub invariant-loop-one : goal.invariant-loop-one
invariant-loop-one l = Covers (λ r. IsAmong r l.rows.items) (IsRowOfOne l.system l.i l.reach.level l.reach.known.now l.fn.state (take l.one-index l.all))
