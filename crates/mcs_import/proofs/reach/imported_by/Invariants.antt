use Rattle.std.proofs.Common.{◌≡◌}
use Rattle.mcs_sets.specs.Sets.{such_that}
use Rattle.mcs_system.specs.Imports.{imports}
use Rattle.mcs_import.proofs.reach.imported_by.Given as goal

abbrev pub invariant-loop-j : goal.invariant-loop-j
invariant-loop-j l = l.row ≡ such_that l.j (imports l.system l.i)
