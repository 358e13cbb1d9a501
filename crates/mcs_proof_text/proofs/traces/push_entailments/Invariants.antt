use Rattle.std.proofs.Common.{◌≡◌, ◌++◌, map, drop}
use Rattle.mcs_cnf.specs.Entailments.{entailment_of}
use Rattle.mcs_proof_text.specs.Lines.{written_lines}
use Rattle.mcs_proof_text.specs.Answers.{all_entailment_lines}
use Rattle.mcs_proof_text.proofs.traces.push_entailments.Given as goal

abbrev pub invariant-loop-entail : goal.invariant-loop-entail
invariant-loop-entail l = l.text ++ written_lines l.names (all_entailment_lines (map entailment_of (drop l.entail-index l.entails))) ≡ l.fn.text ++ written_lines l.names (all_entailment_lines (map entailment_of l.entails))
