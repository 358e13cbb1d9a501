use Rattle.std.proofs.Common.{◌≡◌, true}
use Rattle.mcs_sets.specs.Sets.{such_that}
use Rattle.mcs_import.proofs.order.all_contexts.Given as goal

abbrev pub invariant-loop-i : goal.invariant-loop-i
invariant-loop-i l = l.set ≡ such_that l.i (λ k. true)
