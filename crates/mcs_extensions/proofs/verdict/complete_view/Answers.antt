use Rattle.std.proofs.Common.{◌≡◌, ◌∙◌, List, map, ap, sym, subst, arith}
use Rattle.std.proofs.lemmas.Bool.{iff_false}
use Rattle.std.proofs.lemmas.Result.{IfOk-weaker}
use Rattle.mcs_sets.specs.Sets.{minus, members}
use Rattle.mcs_system.specs.Plain.{Formula, Default}
use Rattle.mcs_system.specs.Seen.{default_of, formula_of}
use Rattle.mcs_cnf.specs.Entailments.{entailment_of}
use Rattle.mcs_evidence.specs.Defaults.{absence_of, defaults_at, defaults_in, negated_justs, AreDenied}
use Rattle.mcs_evidence.specs.Theories.{all_of}
use Rattle.mcs_asked.specs.Questions.{theory_names, theory_beliefs, theory_items}
use Rattle.mcs_extensions.specs.Checks.{AreAbsent}
use Rattle.mcs_extensions.proofs.VerdictLemmas.{complete_view}
use Rattle.mcs_extensions.proofs.verdict.complete_view.Goals as goal

pub chosen-requires : goal.chosen-requires
chosen-requires c = omega (arith, c.args.theory.now.few_defaults)

pub returns-then-not-allowed-clause-exact : goal.returns-then-not-allowed-clause-exact
returns-then-not-allowed-clause-exact c = λ places h. (
    let t = c.args.theory.now in
    let inside : map (λ d. default_of d.now) c.deref.result.now ≡ defaults_in (theory_items t) c.args.set = ap (map (λ d. default_of d.now)) c.deref.ensures.value ∙ c.in_ok-inside.ensures ∙ ap (λ (ds : List Default). defaults_at 0 ds c.args.set) t.are in
    iff_false c.in_ok-allowed.ensures c.if-not-allowed.true (subst (λ (ds : List Default). AreDenied (theory_names t) (map (λ f. formula_of f.now) c.args.premises.now) (negated_justs ds) (map entailment_of c.args.told.now.justs.now)) (sym inside) h.allowed))

pub returns-then-not-absent-clause-exact : goal.returns-then-not-absent-clause-exact
returns-then-not-absent-clause-exact c = λ places h. (
    let t = c.args.theory.now in
    iff_false c.in_ok-absent.ensures.exact c.if-not-absent.true
    (subst (λ (ds : List Default). AreAbsent (theory_names t) (theory_items t) (map (λ f. formula_of f.now) c.args.premises.now) (members (minus (all_of ds) c.args.set)) (map absence_of c.args.told.now.outside.now)) (sym t.are) h.complete))

pub returns-clause-exact : goal.returns-clause-exact
returns-clause-exact c = IfOk-weaker c.shown_places.result _ _ (λ view told. (
    let t = c.args.theory.now in
    let fs : List Formula = map (λ f. formula_of f.now) c.args.premises.now in
    let inside : map (λ d. default_of d.now) c.deref.result.now ≡ defaults_in (theory_items t) c.args.set = ap (map (λ d. default_of d.now)) c.deref.ensures.value ∙ c.in_ok-inside.ensures ∙ ap (λ (ds : List Default). defaults_at 0 ds c.args.set) t.are in
    let allowed = subst (λ (ds : List Default). AreDenied (theory_names t) fs (negated_justs ds) (map entailment_of c.args.told.now.justs.now)) inside (c.in_ok-allowed.ensures.0 c.if-not-allowed.false) in
    let absent = subst (λ (ds : List Default). AreAbsent (theory_names t) (theory_items t) fs (members (minus (all_of ds) c.args.set)) (map absence_of c.args.told.now.outside.now)) t.are (c.in_ok-absent.ensures.exact.0 c.if-not-absent.false) in
    complete_view (theory_names t) (theory_items t) fs (theory_beliefs t) c.args.set (map entailment_of c.args.told.now.justs.now) (map absence_of c.args.told.now.outside.now) (map entailment_of c.args.told.now.outputs.now) view allowed absent told)) c.shown_places.ensures.exact
