use Rattle.std.proofs.Common.{List, map, ap, sym, subst}
use Rattle.mcs_system.specs.Plain.{Formula}
use Rattle.mcs_system.specs.Seen.{formula_of}
use Rattle.mcs_trace.specs.declared.certificate.SetCert.{SetCert}
use Rattle.mcs_cnf.specs.Entailments.{entailment_of}
use Rattle.mcs_evidence.specs.Defaults.{absence_of, verdict_of, generated, Extension}
use Rattle.mcs_asked.specs.Questions.{theory_names, theory_beliefs, theory_items}
use Rattle.mcs_extensions.specs.Checks.{IsVerdictJudged, IsOrderShown}
use Rattle.mcs_extensions.specs.declared.verdict.Judged.{Judged}
use Rattle.mcs_extensions.proofs.VerdictLemmas.{complete_as, judged_view}
use Rattle.mcs_extensions.proofs.verdict.judge_from.Goals as goal

pub returns-in_ok-view-in-Extension-clause-exact :
    goal.returns-in_ok-view-in-Extension-clause-exact
returns-in_ok-view-in-Extension-clause-exact c ready =
    let names = theory_names c.args.theory.now in
    let items = theory_items c.args.theory.now in
    let beliefs : List Formula = theory_beliefs c.args.theory.now in
    let v = c.in-Extension in
    let view = c.in_ok-view-in-Extension.view in
    let told = complete_as names items (map (λ f. formula_of f.now) c.args.premises.now) (generated items c.args.set) beliefs c.args.set
    (map entailment_of c.deref-in-Extension.result.now) (map entailment_of v.justs.items) (map absence_of c.deref-in-Extension-2.result.now) (map absence_of v.outside.items) (map entailment_of c.deref-in-Extension-3.result.now) (map entailment_of v.outputs.items)
    view c.requires.are (ap (map entailment_of) c.deref-in-Extension.ensures.value) (ap (map absence_of) c.deref-in-Extension-2.ensures.value) (ap (map entailment_of) c.deref-in-Extension-3.ensures.value) c.in_ok-view-in-Extension.ensures.exact in
    subst (λ (w : SetCert). IsVerdictJudged names items beliefs c.args.set (verdict_of w) c.judged_as.result) (sym c.in-Extension.is)
    (subst (λ (j : Judged). IsVerdictJudged names items beliefs c.args.set (Extension v.order.items (map entailment_of v.pres.items) (map entailment_of v.justs.items) (map absence_of v.outside.items) (map entailment_of v.outputs.items)) j) (sym c.judged_as.ensures)
    (judged_view names items beliefs c.args.set v.order.items (map entailment_of v.pres.items) (map entailment_of v.justs.items) (map absence_of v.outside.items) (map entailment_of v.outputs.items) view
    (subst (λ (w : SetCert). IsOrderShown names items c.args.set (verdict_of w)) c.in-Extension.is ready) told))
