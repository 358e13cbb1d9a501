use Rattle.std.proofs.Common.{◌≡◌}
use Rattle.std.specs.List.{AllByRecursion}
use Rattle.mcs_table.specs.declared.row.Row as declared
use Rattle.mcs_reasoning_tests.proofs.tables.table.Given as goal

abbrev pub invariant-loop-values : goal.invariant-loop-values
invariant-loop-values l = AllByRecursion (λ (r : declared.Row). r.state.mask ≡ l.scope) l.all.items
