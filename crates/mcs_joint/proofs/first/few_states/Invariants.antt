use Rattle.mcs_joint.proofs.Uniting.{IsUnited}
use Rattle.mcs_joint.proofs.first.few_states.Given as goal

abbrev pub invariant-loop-table : goal.invariant-loop-table
invariant-loop-table l = IsUnited l.level l.tables l.table-index l.seen l.all.items
