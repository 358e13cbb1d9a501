-- The accepted certificate of a program is in shape.
use Rattle.std.proofs.Common.{◌≡◌, ℕ, ◌^◌, ◌≤◌, List, [], ◌∷◌, ◌++◌, map, length, length-append, arith}
use Rattle.std.proofs.lemmas.List.{length-map}
use Rattle.std.specs.List.{AllByRecursion, AllZip, flat_map}
use Rattle.mcs_base.proofs.Lists.{length_zip}
use Rattle.mcs_system.specs.Plain.{Name, Formula, ProgramRule}
use Rattle.mcs_system.proofs.SizeLemmas.{IsSmallRule}
use Rattle.mcs_cnf.proofs.SizeLemmas.{sizes}
use Rattle.mcs_evidence.specs.Programs.{ModelShown, ProgramShown, smaller_formulas, rest_formulas, IsAcceptedModel, IsAcceptedProgram}
use Rattle.mcs_evidence.proofs.ProgramSizes.{smaller_size, rest_size}
use Rattle.mcs_proof_text.specs.Lines.{SmallerLine, NoneLine}
use Rattle.mcs_proof_text.specs.Answers.{trace_lines, model_lines, program_lines}
use Rattle.mcs_proof_text.specs.Shapes.{IsModel, IsProgramShape}
use Rattle.mcs_proof_text.proofs.TraceShapes.{lines_of_steps, trace_shape}

module _ (names : List Name) (rules : List ProgramRule) (few : length names ≤ 64) (few_rules : length rules ≤ 4160)
    (small : AllByRecursion IsSmallRule rules) (beliefs : List Formula) where
  model_shape : (state : ℕ) (m : ModelShown) → length (model_lines m) ≤ 2 ^ 28 → IsAcceptedModel names rules beliefs state m → IsModel names m
  model_shape state m short accepted = (
    accepted.shown.in_range,
    (let size = smaller_size names rules few few_rules small m.model in
        trace_shape names few (smaller_formulas names rules m.model) m.minimal (omega arith) (omega (arith, lines_of_steps m.minimal)) accepted.shown.minimal),
  )

  models_shape : (views : List ℕ) (ms : List ModelShown) → length (flat_map model_lines ms) ≤ 2 ^ 28 → AllZip (IsAcceptedModel names rules beliefs) views ms
      → AllByRecursion (IsModel names) ms
  models_shape [] [] short all = tt
  models_shape [] (m ∷ ms) short all = absurd all
  models_shape (view ∷ views) [] short all = absurd all
  models_shape (view ∷ views) (m ∷ ms) short all =
      let lines = length-append (model_lines m) (flat_map model_lines ms) in
      (model_shape view m (omega arith) all.0, models_shape views ms (omega arith) all.1)

  pub program_shape : (views outputs : List ℕ) (p : ProgramShown) → sizes beliefs ≤ 32768 → length outputs ≡ length views → length outputs ≤ 2 ^ 28
      → length (program_lines p) ≤ 2 ^ 28
      → IsAcceptedProgram names rules beliefs views p → IsProgramShape names outputs p
  program_shape views outputs p small_beliefs same many short accepted =
      let lines = length-append (flat_map model_lines p.models) (map SmallerLine p.smaller ++ NoneLine ∷ trace_lines p.rest) in
      let lines' = length-append (map SmallerLine p.smaller) (NoneLine ∷ trace_lines p.rest) in
      let count = length-map p.smaller SmallerLine in
      let steps = lines_of_steps p.rest in
      let size = rest_size names rules few few_rules small beliefs p.smaller views small_beliefs in record {
        one_each = omega (arith, length_zip (IsAcceptedModel names rules beliefs) views p.models accepted.models);
        models = models_shape views p.models (omega arith) accepted.models;
        smaller = accepted.in_range;
        rest = trace_shape names few (rest_formulas names rules beliefs p.smaller views) p.rest (omega arith) (omega arith) accepted.others;
      }
