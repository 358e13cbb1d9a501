-- The texts that the code makes of a system are those of its definition.
use Rattle.std.proofs.Common.{◌≡◌, ℕ, ◌≤◌, List, map, length, take, sym, ap, ◌∙◌, arith}
use Rattle.std.proofs.lemmas.List.{length-map, take_all}
use Rattle.std.proofs.lemmas.Simd.{map-map}
use Rattle.mcs_system.specs.declared.bridge.Bridge as code_bridge
use Rattle.mcs_system.specs.declared.bridge.Read as code_read
use Rattle.mcs_system.specs.Faults.{IsValid}
use Rattle.mcs_system.specs.Naming.{IsSystemNamed}
use Rattle.mcs_system.specs.Plain.{Bridge, System}
use Rattle.mcs_system.specs.Seen.{bridge_of, read_of}
use Rattle.mcs_system.specs.Systems.{variables}
use Rattle.mcs_system.specs.Texts.{belief_text}
use Rattle.mcs_system.proofs.ValidLemmas.{few_bridges, few_variables}
use Rattle.mcs_proof_reader.specs.declared.texts.Texts as code
use Rattle.mcs_proof_reader.specs.Questions.{rule_names, variable_texts, ten}
use Rattle.mcs_proof_reader.specs.Readers.{AreTexts}

-- all reads told, one after the other
pub variables_told : (m : System) (reads : List code_read.Read) (k : ℕ) (texts : List (List ℕ)) → length reads ≤ k → texts ≡ map (λ r. belief_text m (read_of r)) (take k reads) → map read_of reads ≡ variables m → texts ≡ variable_texts m
variables_told m reads k texts all told seen =
    told ∙ (ap (map (λ (r : code_read.Read). belief_text m (read_of r))) (take_all _ _ all) ∙ (sym (map-map (belief_text m) read_of reads) ∙ ap (map (belief_text m)) seen))

pub texts_are : (m : System) (t : code.Texts) (bridges : List code_bridge.Bridge) → t.variables.items ≡ variable_texts m → t.rules.items ≡ map (λ b. (bridge_of b).name) bridges → t.numbers.items ≡ ten
    → map bridge_of bridges ≡ m.bridges → IsValid m → IsSystemNamed m → AreTexts m t
texts_are m t bridges of_variables of_bridges of_numbers seen valid named =
    let names : map (λ b. (bridge_of b).name) bridges ≡ rule_names m = sym (map-map (λ (b : Bridge). b.name) bridge_of bridges) ∙ ap (map (λ (b : Bridge). b.name)) seen in
    let rules = of_bridges ∙ names in
    record {
      variables = of_variables;
      rules = rules;
      numbers = of_numbers;
      few_variables = omega (arith, few_variables m valid, length-map (variables m) (belief_text m), ap length of_variables);
      few_rules = omega (arith, few_bridges m valid, length-map m.bridges (λ (b : Bridge). b.name), ap length rules);
      valid = valid;
      named = named;
    }
