use Rattle.std.proofs.Common.{◌≡◌, ◌∙◌, ℕ, List, map, subst}
use Rattle.std.specs.List.{AllByRecursion}
use Rattle.mcs_sets.specs.Orders.{StateBefore}
use Rattle.mcs_base.specs.Listings.{IsAscending}
use Rattle.mcs_system.specs.Plain.{Formula, ProgramRule}
use Rattle.mcs_asked.specs.Questions.{program_rules, program_beliefs}
use Rattle.mcs_trace.specs.declared.certificate.AnswerSetCert.{AnswerSetCert}
use Rattle.mcs_trace.specs.Traces.{inferences_of}
use Rattle.mcs_evidence.specs.Programs.{model_shown_of, program_shown_of, rest_formulas, IsInRange, IsRefutation}
use Rattle.mcs_answer_sets.specs.Models.{AreModelsShown}
use Rattle.std.proofs.lemmas.Bool.{iff_false}
use Rattle.mcs_answer_sets.proofs.ModelLemmas.{unless_range, unless_models, unless_ascending, unless_refuted, program_accepted}
use Rattle.mcs_answer_sets.proofs.program.views_of_rules.Goals as goal

pub returns-in_default : goal.returns-in_default
returns-in_default c =
    unless_range c.args.program.now.atoms.now (program_rules c.args.program.now) (program_beliefs c.args.program.now) (program_shown_of c.args.cert.now)
    (subst (λ (ns : List ℕ). ¬ AllByRecursion (IsInRange c.args.program.now.atoms.now) ns) c.deref.ensures.value (rw c.in_default.is at c.in_ok-sets.ensures))

pub returns-in_default-shown : goal.returns-in_default-shown
returns-in_default-shown c =
    let rules : List ProgramRule = program_rules c.args.program.now in
    let beliefs : List Formula = program_beliefs c.args.program.now in
    unless_models c.args.program.now.atoms.now rules beliefs (program_shown_of c.args.cert.now)
    (subst (λ (ms : List AnswerSetCert). (views : List ℕ) → ¬ AreModelsShown c.args.program.now.atoms.now rules beliefs views (map model_shown_of ms)) c.deref-2.ensures.value (rw c.in_default-shown.is at c.in_ok-shown.ensures))

pub returns-then-not-are_ascending : goal.returns-then-not-are_ascending
returns-then-not-are_ascending c =
    let rules : List ProgramRule = program_rules c.args.program.now in
    let beliefs : List Formula = program_beliefs c.args.program.now in
    unless_ascending c.args.program.now.atoms.now rules beliefs (program_shown_of c.args.cert.now) c.in-Some-shown.views.items
    (subst (λ (ms : List AnswerSetCert). AreModelsShown c.args.program.now.atoms.now rules beliefs c.in-Some-shown.views.items (map model_shown_of ms)) c.deref-2.ensures.value (rw c.in-Some-shown.is at c.in_ok-shown.ensures))
    (subst (λ (vs : List ℕ). ¬ IsAscending StateBefore vs) c.deref-3.ensures.value (iff_false c.are_ascending.ensures c.if-not-are_ascending.true))

pub returns-then-not-refuted : goal.returns-then-not-refuted
returns-then-not-refuted c =
    let rules : List ProgramRule = program_rules c.args.program.now in
    let beliefs : List Formula = program_beliefs c.args.program.now in
    let sets = rw c.in-Some.is at c.in_ok-sets.ensures in
    let smaller : c.deref-4.result.now ≡ c.args.cert.now.smaller.items = c.deref-4.ensures.value ∙ sets.0 ∙ c.deref.ensures.value in
    unless_refuted c.args.program.now.atoms.now rules beliefs (program_shown_of c.args.cert.now) c.in-Some-shown.views.items
    (subst (λ (ms : List AnswerSetCert). AreModelsShown c.args.program.now.atoms.now rules beliefs c.in-Some-shown.views.items (map model_shown_of ms)) c.deref-2.ensures.value (rw c.in-Some-shown.is at c.in_ok-shown.ensures))
    (subst (λ (ns : List ℕ). ¬ IsRefutation c.args.program.now.atoms.now (rest_formulas c.args.program.now.atoms.now rules beliefs ns c.in-Some-shown.views.items) (inferences_of c.args.cert.now.none)) smaller
    (subst (λ (vs : List ℕ). ¬ IsRefutation c.args.program.now.atoms.now (rest_formulas c.args.program.now.atoms.now rules beliefs c.deref-4.result.now vs) (inferences_of c.args.cert.now.none)) c.deref-5.ensures.value
    (iff_false c.in_ok-refuted.ensures c.if-not-refuted.true)))

pub returns : goal.returns
returns c =
    let rules : List ProgramRule = program_rules c.args.program.now in
    let beliefs : List Formula = program_beliefs c.args.program.now in
    let sets = rw c.in-Some.is at c.in_ok-sets.ensures in
    let smaller : c.deref-4.result.now ≡ c.args.cert.now.smaller.items = c.deref-4.ensures.value ∙ sets.0 ∙ c.deref.ensures.value in
    program_accepted c.args.program.now.atoms.now rules beliefs (program_shown_of c.args.cert.now) c.in-Some-shown.views.items
    (subst (λ (ms : List AnswerSetCert). AreModelsShown c.args.program.now.atoms.now rules beliefs c.in-Some-shown.views.items (map model_shown_of ms)) c.deref-2.ensures.value (rw c.in-Some-shown.is at c.in_ok-shown.ensures))
    (subst (λ (ns : List ℕ). AllByRecursion (IsInRange c.args.program.now.atoms.now) ns) c.deref.ensures.value sets.1)
    (subst (λ (vs : List ℕ). IsAscending StateBefore vs) c.deref-3.ensures.value (c.are_ascending.ensures.0 c.if-not-are_ascending.false))
    (subst (λ (ns : List ℕ). IsRefutation c.args.program.now.atoms.now (rest_formulas c.args.program.now.atoms.now rules beliefs ns c.in-Some-shown.views.items) (inferences_of c.args.cert.now.none)) smaller
    (subst (λ (vs : List ℕ). IsRefutation c.args.program.now.atoms.now (rest_formulas c.args.program.now.atoms.now rules beliefs c.deref-4.result.now vs) (inferences_of c.args.cert.now.none)) c.deref-5.ensures.value
    (c.in_ok-refuted.ensures.0 c.if-not-refuted.false)))
