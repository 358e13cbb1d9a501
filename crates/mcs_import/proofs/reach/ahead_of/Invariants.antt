use Rattle.std.proofs.Common.{◌≡◌, ◌&&◌, not, get_or}
use Rattle.mcs_sets.specs.Sets.{has, such_that}
use Rattle.mcs_import.proofs.reach.ahead_of.Given as goal

abbrev pub invariant-loop-j : goal.invariant-loop-j
invariant-loop-j l = l.row ≡ such_that l.j (λ j. has (get_or l.reached l.i 0) j && not (has (get_or l.reached j 0) l.i))
