use Rattle.std.proofs.Common.{take}
use Rattle.mcs_table.proofs.JoinLemmas.{AreUnions}
use Rattle.mcs_table.proofs.joining.unions.Given as goal

abbrev pub invariant-loop-row : goal.invariant-loop-row
invariant-loop-row l = AreUnions (take l.row-index l.rows) l.t.rows l.level l.unions.items
