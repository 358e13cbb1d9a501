use Rattle.mcs_joint.specs.Reduced.{IsReduced}
use Rattle.mcs_joint.proofs.reduce.reduce_by_all.Given as goal

abbrev pub invariant-loop-j : goal.invariant-loop-j
invariant-loop-j l = IsReduced l.level l.fn.tables.items l.tables.items
