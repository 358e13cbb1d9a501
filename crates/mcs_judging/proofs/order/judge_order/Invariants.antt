use Rattle.std.proofs.Common.{length}
use Rattle.mcs_asked.specs.Questions.{theory_names, theory_items}
use Rattle.mcs_judging.specs.Theories.{numbers_in}
use Rattle.mcs_judging.proofs.Orders.{AreOrderedSoFar}
use Rattle.mcs_judging.proofs.order.judge_order.Given as goal

abbrev pub invariant-loop-left : goal.invariant-loop-left
invariant-loop-left l = AreOrderedSoFar (theory_names l.reading.theory.now) (theory_items l.reading.theory.now) l.reading.terms.now.justs.now (numbers_in l.numbers) l.fn.lines l.lines l.are_right l.fn.known l.known l.left

abbrev pub decreases-loop-left : goal.decreases-loop-left
decreases-loop-left l = length l.left
