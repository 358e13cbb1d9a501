use Rattle.std.proofs.Common.{map, take}
use Rattle.mcs_asked.specs.Questions.{program_rules, program_beliefs}
use Rattle.mcs_evidence.specs.Programs.{model_shown_of}
use Rattle.mcs_answer_sets.specs.Models.{AreModelsShown}
use Rattle.mcs_answer_sets.proofs.program.model_views.Given as goal

abbrev pub invariant-loop-shown : goal.invariant-loop-shown
invariant-loop-shown l = AreModelsShown l.program.atoms.now (program_rules l.program) (program_beliefs l.program) l.views.items (map model_shown_of (take l.shown-index l.models))
