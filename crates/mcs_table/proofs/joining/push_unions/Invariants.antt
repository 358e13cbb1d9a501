use Rattle.std.proofs.Common.{◌≡◌, ◌++◌, map, take}
use Rattle.mcs_table.specs.Tables.{united_row}
use Rattle.mcs_table.proofs.joining.push_unions.Given as goal

abbrev pub invariant-loop-partner : goal.invariant-loop-partner
invariant-loop-partner l = l.unions.items ≡ l.fn.unions.items ++ map (united_row l.row) (take l.partner-index l.partners)
