use Rattle.std.proofs.Common.{take}
use Rattle.mcs_base.specs.Listings.{IsAmong}
use Rattle.mcs_table.specs.Tables.{Covers}
use Rattle.mcs_rows.specs.Nearest.{IsRowIn}
use Rattle.mcs_rows.proofs.minimal.rows_in.Given as goal

abbrev pub invariant-loop-state : goal.invariant-loop-state
invariant-loop-state l = Covers (λ r. IsAmong r l.rows.items) (IsRowIn l.system l.i l.reach.level l.reach.known.now (take l.state-index l.states) l.all)
