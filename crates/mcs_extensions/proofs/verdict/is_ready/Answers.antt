use Rattle.std.proofs.Common.{false, ℕ, List, map, IsTrue, ◌↔◌, sym, subst}
use Rattle.std.proofs.lemmas.Bool.{iff_false}
use Rattle.std.proofs.lemmas.Result.{IfOk-weaker}
use Rattle.mcs_base.proofs.Booleans.{false_tells}
use Rattle.mcs_trace.specs.declared.certificate.Entail.{Entail}
use Rattle.mcs_trace.specs.declared.certificate.SetCert.{SetCert}
use Rattle.mcs_cnf.specs.Entailments.{entailment_of}
use Rattle.mcs_evidence.specs.Defaults.{verdict_of, facts_of, AreGrounded}
use Rattle.mcs_asked.specs.Questions.{theory_names, theory_items}
use Rattle.mcs_extensions.specs.Checks.{AreNumbersOf, IsOrderShown}
use Rattle.mcs_extensions.proofs.verdict.is_ready.Goals as goal

pub returns-then-not-are_numbers-clause-exact : goal.returns-then-not-are_numbers-clause-exact
returns-then-not-are_numbers-clause-exact c =
    subst (λ (v : SetCert). IsTrue false ↔ IsOrderShown (theory_names c.args.theory.now) (theory_items c.args.theory.now) c.args.set (verdict_of v)) (sym c.in-Extension.is)
    (false_tells (λ h. iff_false c.are_numbers.ensures c.if-not-are_numbers.true (subst (AreNumbersOf c.args.set) (sym c.deref.ensures.value) h.0)))

pub returns-else-not-are_numbers-clause-exact : goal.returns-else-not-are_numbers-clause-exact
returns-else-not-are_numbers-clause-exact c = IfOk-weaker c.are_grounded.result _ _ (λ yes told. (
    let names = theory_names c.args.theory.now in
    let items = theory_items c.args.theory.now in
    let numbers : AreNumbersOf c.args.set c.in-Extension.order.items = subst (AreNumbersOf c.args.set) c.deref.ensures.value (c.are_numbers.ensures.0 c.if-not-are_numbers.false) in
    let here : IsTrue yes ↔ AreGrounded names items (facts_of items) c.in-Extension.order.items (map entailment_of c.in-Extension.pres.items) =
    subst (λ (ns : List ℕ). IsTrue yes ↔ AreGrounded names items (facts_of items) ns (map entailment_of c.in-Extension.pres.items)) c.deref-in-Extension.ensures.value
    (subst (λ (ps : List Entail). IsTrue yes ↔ AreGrounded names items (facts_of items) c.deref-in-Extension.result.now (map entailment_of ps)) c.deref-in-Extension-2.ensures.value told) in
    subst (λ (v : SetCert). IsTrue yes ↔ IsOrderShown names items c.args.set (verdict_of v)) (sym c.in-Extension.is)
    (λ h. (numbers, here.0 h), λ h. here.1 h.1))) c.are_grounded.ensures.exact
