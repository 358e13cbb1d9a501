use Rattle.std.proofs.Common.{◌≡◌, ◌++◌, map, drop}
use Rattle.std.specs.List.{AllByRecursion}
use Rattle.mcs_sets.specs.Sets.{Within}
use Rattle.mcs_system.specs.Systems.{all_variables}
use Rattle.mcs_proof_text.specs.Lines.{output_text, text_of_lines}
use Rattle.mcs_proof_text.proofs.answer.push_outputs.Given as goal

abbrev pub invariant-loop-state : goal.invariant-loop-state
invariant-loop-state l = record {
  written : l.text ++ text_of_lines (map (output_text l.system) (drop l.state-index l.outputs)) ≡ l.fn.text ++ text_of_lines (map (output_text l.system) l.outputs);
  known : AllByRecursion (λ σ. Within σ (all_variables l.system)) (drop l.state-index l.outputs);
}
