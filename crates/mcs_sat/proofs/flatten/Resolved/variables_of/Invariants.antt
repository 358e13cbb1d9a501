use Rattle.std.proofs.Common.{◌≤◌, length}
use Rattle.mcs_sat.proofs.flatten.Resolved.variables_of.Given as goal

abbrev pub invariant-loop-index : goal.invariant-loop-index
invariant-loop-index l = l.index ≤ length l.pairs

abbrev pub decreases-loop-index : goal.decreases-loop-index
decreases-loop-index l = l.index
