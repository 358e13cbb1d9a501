use Rattle.std.proofs.Common.{◌≡◌, map, slice_get}
use Rattle.mcs_sets.specs.Sets.{such_that}
use Rattle.mcs_system.specs.Parts.{is_read_among}
use Rattle.mcs_system.specs.Seen.{read_of}
use Rattle.mcs_system.proofs.parts.variables_read.Given as goal

abbrev pub invariant-loop-v : goal.invariant-loop-v
invariant-loop-v l = l.set ≡ such_that l.v (λ v. is_read_among (map read_of l.reads) (slice_get (map read_of l.known) v))
