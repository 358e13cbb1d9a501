use Rattle.mcs_extensions.proofs.OrderLemmas.{NumbersFrom}
use Rattle.mcs_extensions.proofs.order.are_numbers.Given as goal

abbrev pub invariant-loop-number : goal.invariant-loop-number
invariant-loop-number l = NumbersFrom l.fn.set l.numbers l.left l.number-index
