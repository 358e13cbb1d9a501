use Rattle.std.proofs.Common.{◌≡◌, ◌++◌, map, drop}
use Rattle.mcs_evidence.specs.Defaults.{verdict_of}
use Rattle.mcs_proof_text.specs.Lines.{written_lines}
use Rattle.mcs_proof_text.specs.Answers.{set_lines}
use Rattle.mcs_proof_text.proofs.defaults.push_verdicts.Given as goal

abbrev pub invariant-loop-set : goal.invariant-loop-set
invariant-loop-set l = l.text ++ written_lines l.names (set_lines l.set (map verdict_of (drop l.set l.verdicts))) ≡ l.fn.text ++ written_lines l.names (set_lines 0 (map verdict_of l.verdicts))
