use Rattle.mcs_joint.specs.Reduced.{IsReduced}
use Rattle.mcs_joint.proofs.reduce.reduce_forth.Given as goal

abbrev pub invariant-loop-i : goal.invariant-loop-i
invariant-loop-i l = IsReduced l.level l.fn.tables.items l.tables.items
