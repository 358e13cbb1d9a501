use Rattle.std.proofs.Common.{◌≡◌, ◌++◌, map, filter, take}
use Rattle.mcs_rows.specs.Making.{agrees, row_with}
use Rattle.mcs_rows.proofs.local.add_parts.Given as goal

abbrev pub invariant-loop-part : goal.invariant-loop-part
invariant-loop-part l = l.rows.items ≡ l.fn.rows.items ++ map (row_with l.system l.i l.state l.marks) (filter (agrees l.system l.i l.state) (take l.part-index l.parts))
