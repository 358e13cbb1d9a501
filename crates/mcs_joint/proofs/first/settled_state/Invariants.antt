use Rattle.mcs_joint.proofs.Settling.{AreSettled}
use Rattle.mcs_joint.proofs.first.settled_state.Given as goal

abbrev pub invariant-loop-variable : goal.invariant-loop-variable
invariant-loop-variable l = AreSettled l.level l.variable l.first l.fn.tables.items l.left.items
