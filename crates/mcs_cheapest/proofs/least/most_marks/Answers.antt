use Rattle.std.proofs.Common.{subst, List, ℕ}
use Rattle.std.proofs.lemmas.List.{take_all}
use Rattle.mcs_cheapest.specs.Least.{IsMostMarks}
use Rattle.mcs_cheapest.proofs.LeastLemmas.{most_more, most_of_none}
use Rattle.mcs_cheapest.proofs.least.most_marks.Goals as goal

pub loop-marks-init : goal.loop-marks-init
loop-marks-init c = most_of_none

pub loop-marks-preserved : goal.loop-marks-preserved
loop-marks-preserved c = most_more c.args.pairs.now c.loop-marks.marks-index c.marks-item.result c.count.result c.loop-marks.most c.max-most.result c.loop-marks-test.true c.marks-item.is c.count.ensures.number c.max-most.ensures c.loop-marks.invariant

pub returns : goal.returns
returns c = subst (λ (xs : List ℕ). IsMostMarks xs c.loop-marks.most) (take_all c.loop-marks.marks-index c.args.pairs.now c.loop-marks-test.false) c.loop-marks.invariant
