use Rattle.mcs_joint.specs.Reduced.{IsReduced}
use Rattle.mcs_joint.proofs.reduce.reduced.Given as goal

abbrev pub invariant-loop : goal.invariant-loop
invariant-loop l = IsReduced l.level l.fn.tables.items l.tables.items
