use Rattle.std.proofs.Common.{◌≡◌, ◌++◌, map, drop}
use Rattle.std.specs.List.{flat_map}
use Rattle.mcs_evidence.specs.Programs.{model_shown_of}
use Rattle.mcs_proof_text.specs.Lines.{written_lines}
use Rattle.mcs_proof_text.specs.Answers.{model_lines}
use Rattle.mcs_proof_text.proofs.programs.push_models.Given as goal

abbrev pub invariant-loop-shown : goal.invariant-loop-shown
invariant-loop-shown l = l.text ++ written_lines l.names (flat_map model_lines (map model_shown_of (drop l.shown-index l.models))) ≡ l.fn.text ++ written_lines l.names (flat_map model_lines (map model_shown_of l.models))
