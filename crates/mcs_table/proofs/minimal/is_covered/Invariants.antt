use Rattle.std.proofs.Common.{drop}
use Rattle.mcs_table.specs.Tables.{IsCovered}
use Rattle.mcs_table.proofs.minimal.is_covered.Given as goal

abbrev pub invariant-loop-i : goal.invariant-loop-i
invariant-loop-i l = ¬ IsCovered (drop l.i l.kept) l.row
