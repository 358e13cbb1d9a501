use Rattle.std.proofs.Common.{◌≡◌, map, take}
use Rattle.mcs_rows.specs.Making.{row_with}
use Rattle.mcs_rows.specs.declared.nearest.Near as near
use Rattle.mcs_rows.proofs.minimal.rows_of_each.Given as goal

abbrev pub invariant-loop-near : goal.invariant-loop-near
invariant-loop-near l = l.rows.items ≡ map (λ (n : near.Near). row_with l.system l.i l.state n.marks l.part) (take l.near-index l.changes)
