use Rattle.std.proofs.Common.{◌≡◌, length, is_some}
use Rattle.mcs_steps.specs.Lines.{clause_from}
use Rattle.mcs_steps.proofs.line.is_clause.Given as goal

abbrev pub invariant-loop-left : goal.invariant-loop-left
invariant-loop-left l = is_some (clause_from l.last l.left) ≡ is_some (clause_from 0 l.bytes)

abbrev pub decreases-loop-left : goal.decreases-loop-left
decreases-loop-left l = length l.left
