use Rattle.std.proofs.Common.{◌≡◌, ◌*◌}
use Rattle.mcs_sets.specs.Sets.{such_that}
use Rattle.mcs_system.specs.Repairs.{is_allowed}
use Rattle.mcs_system.proofs.system.System.allowed.Given as goal

abbrev pub invariant-loop-rule : goal.invariant-loop-rule
invariant-loop-rule l = l.marks ≡ such_that (2 * l.rule) (is_allowed l.self)
