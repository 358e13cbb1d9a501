-- A right answer to a question of a valid system is in shape.
use Rattle.std.proofs.Common.{◌≡◌, ℕ, ◌+◌, ◌^◌, ◌<◌, ◌≤◌, List, [], ◌∷◌, ◌++◌, map, length, length-append, codes, ap, ◌∙◌, subst, arith}
use Rattle.std.proofs.lemmas.List.{length-map}
use Rattle.std.proofs.lemmas.Option.{slice_get_within}
use Rattle.std.specs.List.{AllByRecursion, filter_map}
use Rattle.mcs_sets.specs.Sets.{members, size, Within}
use Rattle.mcs_base.proofs.Each.{all_append, all_from_among, all_get, all_map}
use Rattle.mcs_system.specs.Plain.{Name, Formula, Item, Fact, ClassicalKind, DefaultKind, ProgramKind, Kb, OfKind, Context, System}
use Rattle.mcs_system.specs.Logic.{fact_of, with_heads}
use Rattle.mcs_system.specs.Atoms.{atoms_of}
use Rattle.mcs_system.specs.Systems.{variables_of, heads_into}
use Rattle.mcs_system.specs.Views.{belief_at, beliefs_at, at_places}
use Rattle.mcs_system.specs.Faults.{item_count}
use Rattle.mcs_system.specs.Justifications.{IsJustifiedUpTo, KbIsJustifiedUpTo}
use Rattle.mcs_system.proofs.ValidLemmas.{few_atoms, few_variables}
use Rattle.mcs_system.proofs.SizeLemmas.{IsSmall, IsSmallItem, IsSmallRule, IsSmallKb, few_items, small_kb, few_heads, small_heads, small_beliefs}
use Rattle.mcs_import.proofs.QuestionLemmas.{accepted_within}
use Rattle.mcs_cnf.proofs.SizeLemmas.{sizes_up_to}
use Rattle.mcs_evidence.proofs.ProgramSizes.{added_rules}
use Rattle.mcs_evidence.proofs.TheoryLemmas.{defaults_with}
use Rattle.mcs_asking.specs.Certificates.{Certificate, OfFormulas, OfDefaults, OfProgram, IsAcceptedFor}
use Rattle.mcs_asking.proofs.AnswerLemmas.{accepted_right}
use Rattle.mcs_asking.proofs.CoverLemmas.{few_beliefs}
use Rattle.mcs_proof_text.specs.Lines.{line_text, output_text}
use Rattle.mcs_proof_text.specs.Answers.{Answer, certificate_lines, answer_lines}
use Rattle.mcs_proof_text.specs.Kinds.{IsCertificate}
use Rattle.mcs_proof_text.specs.Proofs.{RightAnswersAreInShape}
use Rattle.mcs_proof_text.proofs.TraceShapes.{either_shapes}
use Rattle.mcs_proof_text.proofs.DefaultShapes.{verdicts_shape}
use Rattle.mcs_proof_text.proofs.ProgramShapes.{program_shape}

-- ---- the certificate, by the kind of the knowledge base
module _ (names : List Name) (few : length names ≤ 64) (most : ℕ) (least : most < 2 ^ 32) (heads beliefs : List Formula)
    (small : AllByRecursion IsSmall heads) (few_told : length heads ≤ 64) (small_asked : AllByRecursion IsSmall beliefs) (few_asked : length beliefs ≤ 64)
    (views outputs : List ℕ) (same : length outputs ≡ length views) (many : length outputs ≤ 2 ^ 28) where
  certificate_shape : (kb : Kb) (cert : Certificate) → IsSmallKb kb → item_count kb ≤ 4096 → KbIsJustifiedUpTo most kb
      → length (certificate_lines cert) ≤ 2 ^ 28
      → IsAcceptedFor names (with_heads kb heads) beliefs views cert → IsCertificate names kb (length beliefs) outputs cert
  certificate_shape (OfKind ClassicalKind fs) (OfFormulas es) small_fs items justified short accepted =
      let size = sizes_up_to 512 (fs ++ heads) (all_append IsSmall fs heads small_fs small) in
      let count = length-append fs heads in
      (omega (arith, ap length accepted.only), either_shapes names few (fs ++ heads) beliefs es (omega arith) small_asked short accepted.shown.entailments)
  certificate_shape (OfKind DefaultKind theory) (OfDefaults vs) small_items items justified short accepted =
      let told : List Item = theory ++ map Fact heads in
      let count : length told ≡ length theory + length heads = length-append theory (map Fact heads) ∙ ap (λ n. length theory + n) (length-map heads Fact) in
      let small_told = all_append IsSmallItem theory (map Fact heads) small_items (all_map Fact IsSmall IsSmallItem (λ f h. h) heads small) in
      let few_justs = all_append (IsJustifiedUpTo most) theory (map Fact heads) justified (all_map Fact IsSmall (IsJustifiedUpTo most) (λ f h. tt) heads small) in
      verdicts_shape names few told theory (defaults_with theory heads) (omega arith) small_told most least few_justs beliefs views vs small_asked short accepted
  certificate_shape (OfKind ProgramKind rules) (OfProgram p) small_rules items justified short accepted =
      let added = added_rules heads in
      let count = length-append rules (filter_map fact_of heads) in
      let small_told = all_append IsSmallRule rules (filter_map fact_of heads) small_rules added.0 in
      let size = sizes_up_to 512 beliefs small_asked in
      program_shape names (rules ++ filter_map fact_of heads) few (omega (arith, added.1)) small_told beliefs views outputs p (omega arith) same many short accepted
  certificate_shape kb cert small_kb items justified short accepted = absurd accepted

-- ---- the answer
-- outputs and the lines of the certificate are among its lines
lines_of_answer : (m : System) (a : Answer) → length a.outputs + length (certificate_lines a.cert) ≤ length (answer_lines m a)
lines_of_answer m a =
    let texts = map (line_text (atoms_of m a.context)) (certificate_lines a.cert) in
    let count = length-append (map (output_text m) a.outputs) (texts ++ codes "done" ∷ []) in
    let count' = length-append texts (codes "done" ∷ []) in
    omega (arith, length-map a.outputs (output_text m), length-map (certificate_lines a.cert) (line_text (atoms_of m a.context)))

pub right_shape : RightAnswersAreInShape
right_shape m n a valid least justified within short right =
    let i = a.context in
    let c : Context = right.context in
    let less = slice_get_within m.contexts i c right.is_it in
    let asked : List Formula = beliefs_at m (variables_of m i) in
    let listing = accepted_right m i a.active a.outputs a.cert valid right in
    let lines = lines_of_answer m a in
    let small = small_kb m valid i c right.is_it in
    let items = few_items m valid i c right.is_it in
    let few_justs = all_get (λ (d : Context). KbIsJustifiedUpTo n d.kb) m.contexts i c justified right.is_it in
    let few_asked : length asked ≤ 64 = omega (arith, few_beliefs m i, few_variables m valid) in
    let same : length a.outputs ≡ length right.views = ap length right.outputs_are ∙ length-map right.views (at_places (variables_of m i)) in
    let small_asked = small_beliefs m valid (variables_of m i) in
    let count : length asked ≡ size (variables_of m i) = length-map (members (variables_of m i)) (belief_at m) in record {
      context = c;
      is_it = right.is_it;
      rules = within;
      states = all_from_among (λ σ. Within σ (variables_of m i)) a.outputs (λ σ among. accepted_within m i a.active σ ((listing.exactly σ).0 among));
      ascending = listing.ascending;
      cert = subst (λ (k : ℕ). IsCertificate (atoms_of m i) c.kb k a.outputs a.cert) count
          (certificate_shape (atoms_of m i) (few_atoms m valid i less) n least (heads_into m i a.active) asked (small_heads m valid i a.active) (few_heads m valid i a.active)
          small_asked few_asked right.views a.outputs same (omega arith) c.kb a.cert small items few_justs (omega arith) right.shown);
    }
