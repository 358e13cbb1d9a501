use Rattle.mcs_joint.proofs.Uniting.{IsUnited}
use Rattle.mcs_joint.proofs.states.united_states.Given as goal

abbrev pub invariant-loop-k : goal.invariant-loop-k
invariant-loop-k l = IsUnited l.level l.tables l.k l.seen l.all.items
