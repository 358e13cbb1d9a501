use Rattle.std.proofs.Common.{◌≡◌, false, get_or}
use Rattle.mcs_sets.specs.Sets.{such_that}
use Rattle.mcs_classical.proofs.refuting.true_places.Given as goal

abbrev pub invariant-loop-k : goal.invariant-loop-k
invariant-loop-k l = l.places ≡ such_that l.k (λ k. get_or l.values k false)
