use Rattle.std.proofs.Common.{◌≡◌, ◌++◌, map, drop}
use Rattle.std.specs.List.{flat_map}
use Rattle.mcs_evidence.specs.Defaults.{absence_of}
use Rattle.mcs_proof_text.specs.Lines.{written_lines}
use Rattle.mcs_proof_text.specs.Answers.{absence_lines}
use Rattle.mcs_proof_text.proofs.defaults.push_absences.Given as goal

abbrev pub invariant-loop-one : goal.invariant-loop-one
invariant-loop-one l = l.text ++ written_lines l.names (flat_map absence_lines (map absence_of (drop l.one-index l.outside))) ≡ l.fn.text ++ written_lines l.names (flat_map absence_lines (map absence_of l.outside))
