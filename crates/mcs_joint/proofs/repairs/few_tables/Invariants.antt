use Rattle.std.proofs.Common.{take}
use Rattle.std.specs.List.{AllZip}
use Rattle.mcs_joint.specs.Reduced.{HasFewMarks}
use Rattle.mcs_joint.proofs.repairs.few_tables.Given as goal

abbrev pub invariant-loop-table : goal.invariant-loop-table
invariant-loop-table l = AllZip (HasFewMarks l.level) (take l.table-index l.tables) l.found.items
