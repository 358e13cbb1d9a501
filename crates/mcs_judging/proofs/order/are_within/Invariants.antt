use Rattle.std.proofs.Common.{◌≡◌, length}
use Rattle.mcs_spelling.specs.Words.{numbers_of}
use Rattle.mcs_judging.proofs.Orders.{are_all_within}
use Rattle.mcs_judging.proofs.order.are_within.Given as goal

abbrev pub invariant-loop-number : goal.invariant-loop-number
invariant-loop-number l = are_all_within l.most (numbers_of l.left) ≡ are_all_within l.most (numbers_of l.bytes)

abbrev pub decreases-loop-number : goal.decreases-loop-number
decreases-loop-number l = length l.left
