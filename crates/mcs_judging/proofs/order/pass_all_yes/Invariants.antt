use Rattle.std.proofs.Common.{length}
use Rattle.mcs_judging.specs.Theories.{numbers_in}
use Rattle.mcs_judging.proofs.Orders.{ArePassedSoFar}
use Rattle.mcs_judging.proofs.order.pass_all_yes.Given as goal

abbrev pub invariant-loop-left : goal.invariant-loop-left
invariant-loop-left l = ArePassedSoFar (length (numbers_in l.numbers)) l.fn.lines l.lines l.left

abbrev pub decreases-loop-left : goal.decreases-loop-left
decreases-loop-left l = length l.left
