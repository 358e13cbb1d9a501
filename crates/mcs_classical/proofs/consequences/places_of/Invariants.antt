use Rattle.std.proofs.Common.{◌≡◌, true}
use Rattle.mcs_sets.specs.Sets.{such_that}
use Rattle.mcs_classical.proofs.consequences.places_of.Given as goal

abbrev pub invariant-loop-place : goal.invariant-loop-place
invariant-loop-place l = l.places ≡ such_that l.place (λ k. true)
