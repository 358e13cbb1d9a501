use Rattle.std.proofs.Common.{take}
use Rattle.mcs_table.specs.Fitting.{AreFittingStates}
use Rattle.mcs_rows.proofs.fitting.fitting_states.Given as goal

abbrev pub invariant-loop-table : goal.invariant-loop-table
invariant-loop-table l = AreFittingStates l.variables (take l.table-index l.tables) l.fn.states.items l.kept.items
