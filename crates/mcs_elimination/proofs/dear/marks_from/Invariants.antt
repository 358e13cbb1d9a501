use Rattle.std.proofs.Common.{◌≡◌, ◌++◌}
use Rattle.mcs_sets.specs.Sets.{members}
use Rattle.mcs_system.specs.Repairs.{allowed_marks}
use Rattle.mcs_elimination.proofs.DearMarks.{dear_of}
use Rattle.std.proofs.Common.{◌*◌, ◌<◌, length}
use Rattle.std.specs.List.{AllByRecursion}
use Rattle.mcs_elimination.proofs.dear.marks_from.Given as goal

abbrev pub invariant-loop-mark : goal.invariant-loop-mark
invariant-loop-mark l = record {
  dear : l.dear.items ++ dear_of l.system l.price l.mark-iterator ≡ dear_of l.system l.price (members (allowed_marks l.system));
  known : AllByRecursion (λ k. k < 2 * length l.system.bridges) l.mark-iterator;
}
