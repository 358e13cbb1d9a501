use Rattle.std.proofs.Common.{take}
use Rattle.mcs_cheapest.specs.Least.{IsMostMarks}
use Rattle.mcs_cheapest.proofs.least.most_marks.Given as goal

abbrev pub invariant-loop-marks : goal.invariant-loop-marks
invariant-loop-marks l = IsMostMarks (take l.marks-index l.pairs) l.most
