use Rattle.std.proofs.Common.{◌↔◌, ℕ, take}
use Rattle.mcs_base.specs.Listings.{IsAmong}
use Rattle.mcs_table.specs.declared.row.Row.{Row}
use Rattle.mcs_rows.specs.Making.{IsChangedRow}
use Rattle.mcs_rows.proofs.changed.changed_in.Given as goal

abbrev pub invariant-loop-state : goal.invariant-loop-state
invariant-loop-state l = (r : Row) → IsAmong r l.all.items ↔ ((s : ℕ) × IsAmong s (take l.state-index l.states) × IsChangedRow l.system l.i l.fn.pair l.answers s r)
