use Rattle.std.proofs.Common.{◌-◌}
use Rattle.mcs_sets.specs.Sets.{size}
use Rattle.mcs_grounded.proofs.Loops.{IsGathered}
use Rattle.mcs_grounded.proofs.normal.dependent.Given as goal

abbrev pub invariant-loop-more : goal.invariant-loop-more
invariant-loop-more l = IsGathered l.rules l.fn.start l.places

abbrev pub decreases-loop-more : goal.decreases-loop-more
decreases-loop-more l = 64 - size l.places
