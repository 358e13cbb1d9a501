use Rattle.std.proofs.Common.{◌∙◌, ◌++◌, List, map, ap, sym, subst}
use Rattle.mcs_base.proofs.Each.{all_append}
use Rattle.mcs_system.specs.Plain.{Formula}
use Rattle.mcs_system.specs.Seen.{formula_of}
use Rattle.mcs_trace.specs.declared.certificate.Entail.{Entail}
use Rattle.mcs_cnf.specs.ClauseLists.{clause_list, IsOver, AreOver}
use Rattle.mcs_cnf.specs.Entailments.{entailment_of}
use Rattle.mcs_cnf.specs.Classical.{AreShown}
use Rattle.mcs_entailment.proofs.classical.classical_views.Goals as goal

pub clauses_of-requires : goal.clauses_of-requires
clauses_of-requires c =
    subst (AreOver c.args.asked.now.atoms.now) (sym (ap (map (λ f. formula_of f.now)) c.deref.ensures.value ∙ c.in_ok-premises.ensures))
    (all_append (IsOver c.args.asked.now.atoms.now) (map formula_of c.args.formulas.now) (map (λ f. formula_of f.now) c.args.heads.now) c.requires.formulas c.requires.heads)

pub shown_places-requires : goal.shown_places-requires
shown_places-requires c = record { made = c.in_ok-known.ensures ∙ ap (λ fs. clause_list c.args.asked.now.atoms.now (map (λ f. formula_of f.now) fs)) (c.deref.ensures.value ∙ sym c.deref-2.ensures.value) }

pub returns-in_default : goal.returns-in_default
returns-in_default c = λ views h. (
    let beliefs : List Formula = map (λ b. formula_of b.now) c.args.asked.now.beliefs.now in
    let premises = ap (map (λ f. formula_of f.now)) c.deref-2.ensures.value ∙ c.in_ok-premises.ensures in
    let none = rw c.in_default.is at c.in_ok-shown.ensures.exact in
    none h.view
    (subst (λ (fs : List Formula). AreShown c.args.asked.now.atoms.now fs beliefs h.view (map entailment_of c.deref-3.result.now)) (sym premises)
    (subst (λ (es : List Entail). AreShown c.args.asked.now.atoms.now (map formula_of c.args.formulas.now ++ map (λ f. formula_of f.now) c.args.heads.now) beliefs h.view (map entailment_of es)) (sym c.deref-3.ensures.value) h.shown)))

pub returns : goal.returns
returns c =
    let beliefs : List Formula = map (λ b. formula_of b.now) c.args.asked.now.beliefs.now in
    let fs : List Formula = map formula_of c.args.formulas.now ++ map (λ f. formula_of f.now) c.args.heads.now in
    let premises = ap (map (λ f. formula_of f.now)) c.deref-2.ensures.value ∙ c.in_ok-premises.ensures in
    let told = rw c.in-Some.is at c.in_ok-shown.ensures.exact in
    let shown : AreShown c.args.asked.now.atoms.now fs beliefs c.in-Some.view (map entailment_of c.args.cert.now.entails.items) =
    subst (λ (es : List Entail). AreShown c.args.asked.now.atoms.now fs beliefs c.in-Some.view (map entailment_of es)) c.deref-3.ensures.value
    (subst (λ (gs : List Formula). AreShown c.args.asked.now.atoms.now gs beliefs c.in-Some.view (map entailment_of c.deref-3.result.now)) premises told) in
    record { view = c.in-Some.view; only = c.in_ok-views.ensures; shown = shown }
