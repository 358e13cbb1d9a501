use Rattle.std.proofs.Common.{◌≡◌, true}
use Rattle.mcs_sets.specs.Sets.{such_that}
use Rattle.mcs_program.proofs.view.all_places.Given as goal

abbrev pub invariant-loop-place : goal.invariant-loop-place
invariant-loop-place l = l.places ≡ such_that l.place (λ _. true)
