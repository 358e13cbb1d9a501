use Rattle.std.proofs.Common.{◌≡◌, map}
use Rattle.mcs_cnf.specs.Entailments.{entailment_of}
use Rattle.mcs_proof_lines.specs.Walks.{yes_at, many_at, after_front}
use Rattle.mcs_proof_lines.proofs.evidence.take_all_yes.Given as goal

abbrev pub invariant-loop-left : goal.invariant-loop-left
invariant-loop-left l = after_front (map entailment_of l.entails.items) (many_at yes_at l.left l.lines) ≡ many_at yes_at l.fn.count l.fn.lines

abbrev pub decreases-loop-left : goal.decreases-loop-left
decreases-loop-left l = l.left
