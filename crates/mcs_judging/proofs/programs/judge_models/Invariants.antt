use Rattle.mcs_evidence.specs.Programs.{IsAcceptedModel}
use Rattle.mcs_proof_lines.specs.Programs.{model_at}
use Rattle.mcs_asked.specs.Questions.{program_rules, program_beliefs}
use Rattle.mcs_judging.proofs.ProgramLemmas.{AreShownSoFar}
use Rattle.mcs_judging.proofs.programs.judge_models.Given as goal

abbrev pub invariant-loop-left : goal.invariant-loop-left
invariant-loop-left l = AreShownSoFar (model_at l.texts) (IsAcceptedModel l.program.atoms.now (program_rules l.program) (program_beliefs l.program)) l.count l.left l.fn.lines l.lines l.views.items

abbrev pub decreases-loop-left : goal.decreases-loop-left
decreases-loop-left l = l.left
