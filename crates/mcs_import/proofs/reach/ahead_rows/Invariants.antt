use Rattle.std.proofs.Common.{◌≡◌, map}
use Rattle.std.specs.List.{range_with_len}
use Rattle.mcs_import.specs.Reach.{ahead_row}
use Rattle.mcs_import.proofs.reach.ahead_rows.Given as goal

abbrev pub invariant-loop-i : goal.invariant-loop-i
invariant-loop-i l = l.rows.items ≡ map (ahead_row l.reached.items) (range_with_len 0 l.i)
