use Rattle.std.proofs.Common.{take}
use Rattle.std.specs.List.{AllZip}
use Rattle.mcs_joint.specs.First.{valued, IsNarrowed}
use Rattle.mcs_joint.proofs.first.narrowed.Given as goal

abbrev pub invariant-loop-table : goal.invariant-loop-table
invariant-loop-table l = AllZip (IsNarrowed (valued l.variable l.value)) (take l.table-index l.tables) l.all.items
