use Rattle.std.proofs.Common.{◌+◌, ◌-◌, length}
use Rattle.mcs_trace.proofs.JoinLemmas.{JoinSoFar}
use Rattle.mcs_trace.proofs.resolvent.join.Given as goal

abbrev pub invariant-loop-i : goal.invariant-loop-i
invariant-loop-i l = JoinSoFar l.first l.second l.fn.literal l.i l.j l.out.items

abbrev pub decreases-loop-i : goal.decreases-loop-i
decreases-loop-i l = (length l.first - l.i) + (length l.second - l.j)
