use Rattle.std.proofs.Common.{◌≡◌, map, slice_get}
use Rattle.mcs_sets.specs.Sets.{such_that}
use Rattle.mcs_system.specs.Seen.{read_of}
use Rattle.mcs_system.specs.Systems.{is_of_context}
use Rattle.mcs_system.proofs.parts.variables_among.Given as goal

abbrev pub invariant-loop-v : goal.invariant-loop-v
invariant-loop-v l = l.set ≡ such_that l.v (λ v. is_of_context l.context (slice_get (map read_of l.known) v))
