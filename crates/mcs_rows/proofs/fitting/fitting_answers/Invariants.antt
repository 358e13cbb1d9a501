use Rattle.std.proofs.Common.{take}
use Rattle.std.specs.List.{AllZip}
use Rattle.mcs_rows.specs.Fitting.{HasFittingParts}
use Rattle.mcs_rows.proofs.fitting.fitting_answers.Given as goal

abbrev pub invariant-loop-table : goal.invariant-loop-table
invariant-loop-table l = AllZip (HasFittingParts l.variables (take l.table-index l.tables)) l.answers l.kept.items
