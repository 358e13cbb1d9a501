use Rattle.mcs_proof_lines.specs.Programs.{model_at}
use Rattle.mcs_judging.proofs.ProgramLemmas.{AreReadSoFar}
use Rattle.mcs_judging.proofs.programs.pass_models.Given as goal

abbrev pub invariant-loop-left : goal.invariant-loop-left
invariant-loop-left l = AreReadSoFar (model_at l.texts) l.count l.left l.fn.lines l.lines

abbrev pub decreases-loop-left : goal.decreases-loop-left
decreases-loop-left l = l.left
