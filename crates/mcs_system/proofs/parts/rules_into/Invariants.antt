use Rattle.std.proofs.Common.{◌≡◌, map, slice_get}
use Rattle.mcs_sets.specs.Sets.{such_that}
use Rattle.mcs_system.specs.Imports.{goes_into}
use Rattle.mcs_system.specs.Seen.{bridge_of}
use Rattle.mcs_system.proofs.parts.rules_into.Given as goal

abbrev pub invariant-loop-k : goal.invariant-loop-k
invariant-loop-k l = l.set ≡ such_that l.k (λ k. goes_into l.context (slice_get (map bridge_of l.bridges) k))
