use Rattle.mcs_sets.specs.Sets.{members}
use Rattle.mcs_base.proofs.SetParts.{AreBelow}
use Rattle.mcs_import.proofs.SetTable.{AreSoFar}
use Rattle.mcs_import.proofs.fewest.sets_of.Given as goal

-- all sets of the rules so far
abbrev pub invariant-loop-rule : goal.invariant-loop-rule
invariant-loop-rule l = record {
  sets : AreSoFar (members l.fn.rules) l.rule-iterator l.all.items;
  known : AreBelow 64 l.rule-iterator;
}
