use Rattle.std.proofs.Common.{◌≡◌, take, drop}
use Rattle.std.specs.List.{AllByRecursion}
use Rattle.mcs_sets.specs.Sets.{union}
use Rattle.mcs_table.specs.Joins.{union_of}
use Rattle.mcs_table.specs.Tables.{TableData, IsTable}
use Rattle.mcs_joint.proofs.order.scopes.Given as goal

abbrev pub invariant-loop-table : goal.invariant-loop-table
invariant-loop-table l = (union l.all (union_of (λ (t : TableData). t.scope) (drop l.table-index l.tables)) ≡ union_of (λ (t : TableData). t.scope) l.tables) × AllByRecursion IsTable (take l.table-index l.tables)
