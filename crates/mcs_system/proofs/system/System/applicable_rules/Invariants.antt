use Rattle.std.proofs.Common.{◌≡◌, slice_get}
use Rattle.mcs_sets.specs.Sets.{such_that}
use Rattle.mcs_system.specs.Systems.{is_applicable}
use Rattle.mcs_system.proofs.system.System.applicable_rules.Given as goal

abbrev pub invariant-loop-r : goal.invariant-loop-r
invariant-loop-r l = l.rules ≡ such_that l.r (λ k. is_applicable l.self l.state (slice_get l.self.bridges k))
