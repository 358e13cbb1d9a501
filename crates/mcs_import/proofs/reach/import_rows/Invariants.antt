use Rattle.std.proofs.Common.{◌≡◌, map}
use Rattle.std.specs.List.{range_with_len}
use Rattle.mcs_import.specs.Reach.{import_row}
use Rattle.mcs_import.proofs.reach.import_rows.Given as goal

abbrev pub invariant-loop-i : goal.invariant-loop-i
invariant-loop-i l = l.rows.items ≡ map (import_row l.system) (range_with_len 0 l.i)
