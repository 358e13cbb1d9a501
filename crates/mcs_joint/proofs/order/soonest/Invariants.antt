use Rattle.std.proofs.Common.{◌<◌, length}
use Rattle.mcs_joint.proofs.order.soonest.Given as goal

abbrev pub invariant-loop-i : goal.invariant-loop-i
invariant-loop-i l = l.best < length l.tables
