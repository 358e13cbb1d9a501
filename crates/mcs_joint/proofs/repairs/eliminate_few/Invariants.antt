use Rattle.mcs_joint.proofs.Keeping.{IsLeftWithout}
use Rattle.mcs_joint.proofs.repairs.eliminate_few.Given as goal

abbrev pub invariant-loop-k : goal.invariant-loop-k
invariant-loop-k l = IsLeftWithout l.sets l.level l.tables l.k l.left
