use Rattle.std.proofs.Common.{◌≡◌, get_or}
use Rattle.mcs_sets.specs.Sets.{has, such_that}
use Rattle.mcs_program.proofs.view.numbers_in.Given as goal

abbrev pub invariant-loop-k : goal.invariant-loop-k
invariant-loop-k l = l.view ≡ such_that l.k (λ k. has l.model (get_or l.places k 0))
