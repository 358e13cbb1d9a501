use Rattle.std.proofs.Common.{◌-◌}
use Rattle.mcs_sets.specs.Sets.{size}
use Rattle.mcs_grounded.proofs.Loops.{IsUpTo}
use Rattle.mcs_grounded.proofs.normal.least_model.Given as goal

abbrev pub invariant-loop-against : goal.invariant-loop-against
invariant-loop-against l = IsUpTo l.rules l.against l.fn.start l.places

abbrev pub decreases-loop-against : goal.decreases-loop-against
decreases-loop-against l = 64 - size l.places
