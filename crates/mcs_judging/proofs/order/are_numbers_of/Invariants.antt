use Rattle.std.proofs.Common.{length}
use Rattle.mcs_judging.specs.Theories.{numbers_in}
use Rattle.mcs_judging.proofs.Orders.{HasNumbersLeft}
use Rattle.mcs_judging.proofs.order.are_numbers_of.Given as goal

abbrev pub invariant-loop-left : goal.invariant-loop-left
invariant-loop-left l = HasNumbersLeft l.fn.set (numbers_in l.numbers) l.rest l.left

abbrev pub decreases-loop-left : goal.decreases-loop-left
decreases-loop-left l = length l.left
