use Rattle.std.proofs.Common.{◌≡◌, ℕ, ◌++◌, List, length}
use Rattle.mcs_proof_lines.specs.Walks.{At}
use Rattle.mcs_proof_lines.specs.Programs.{smaller_at}
use Rattle.mcs_judging.proofs.programs.take_smaller.Given as goal

abbrev pub invariant-loop-set : goal.invariant-loop-set
invariant-loop-set l = ◌≡◌ {A = List ℕ × At} (l.sets.items ++ (smaller_at l.texts l.lines).0, (smaller_at l.texts l.lines).1) (smaller_at l.texts l.fn.lines)

abbrev pub decreases-loop-set : goal.decreases-loop-set
decreases-loop-set l = length l.lines.rest
