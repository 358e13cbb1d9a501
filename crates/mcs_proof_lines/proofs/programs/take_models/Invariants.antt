use Rattle.std.proofs.Common.{◌≡◌, map}
use Rattle.mcs_evidence.specs.Programs.{model_shown_of}
use Rattle.mcs_proof_lines.specs.Walks.{many_at, after_front}
use Rattle.mcs_proof_lines.specs.Programs.{model_at}
use Rattle.mcs_proof_lines.proofs.programs.take_models.Given as goal

abbrev pub invariant-loop-left : goal.invariant-loop-left
invariant-loop-left l = after_front (map model_shown_of l.models.items) (many_at (model_at l.atoms) l.left l.lines) ≡ many_at (model_at l.atoms) l.fn.count l.fn.lines

abbrev pub decreases-loop-left : goal.decreases-loop-left
decreases-loop-left l = l.left
