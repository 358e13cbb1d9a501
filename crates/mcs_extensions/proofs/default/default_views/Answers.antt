use Rattle.std.proofs.Common.{◌∙◌, ◌++◌, ℕ, List, length, map, ap, sym, subst, arith}
use Rattle.std.proofs.lemmas.List.{length-map}
use Rattle.std.proofs.lemmas.Result.{IfOk-weaker}
use Rattle.std.specs.Prelude.{MatchOption}
use Rattle.mcs_system.specs.Plain.{Formula, Item, Fact}
use Rattle.mcs_system.specs.Seen.{default_of, formula_of, item_of}
use Rattle.mcs_base.proofs.Each.{all_append}
use Rattle.mcs_cnf.specs.ClauseLists.{clause_list, IsOver, AreOver}
use Rattle.mcs_trace.specs.declared.certificate.SetCert.{SetCert}
use Rattle.mcs_evidence.specs.Defaults.{facts_of, verdict_of, IsAcceptedDefault}
use Rattle.mcs_evidence.proofs.TheoryLemmas.{defaults_with, facts_with, over_facts, over_with_facts}
use Rattle.mcs_extensions.proofs.default.default_views.Goals as goal

pub clauses_of-requires : goal.clauses_of-requires
clauses_of-requires c =
    let names = c.args.asked.now.atoms.now in
    subst (AreOver names) (sym (ap (map (λ f. formula_of f.now)) c.deref.ensures.value ∙ c.in_ok-facts.ensures))
    (all_append (IsOver names) (facts_of (map item_of c.args.items.now)) (map (λ f. formula_of f.now) c.args.heads.now) (over_facts names (map item_of c.args.items.now) c.requires.items) c.requires.heads)

pub invariant_of-theory : goal.invariant_of-theory
invariant_of-theory c =
    let items : List Item = map item_of c.args.items.now in
    let heads : List Formula = map (λ f. formula_of f.now) c.args.heads.now in
    record {
      are = ap (map (λ d. default_of d.now)) c.deref-2.ensures.value ∙ c.in_ok-defaults.ensures ∙ sym (defaults_with items heads);
      few_defaults = omega (arith, ap length c.deref-2.ensures.value, length-map c.in_ok-defaults.defaults.items (λ d. default_of d.now), ap length c.in_ok-defaults.ensures, c.requires.few_defaults);
      over = over_with_facts c.args.asked.now.atoms.now items heads c.requires.items c.requires.heads;
    }

pub judge_all-requires : goal.judge_all-requires
judge_all-requires c =
    c.in_ok-known.ensures ∙ ap (clause_list c.args.asked.now.atoms.now) (ap (map (λ f. formula_of f.now)) c.deref.ensures.value ∙ c.in_ok-facts.ensures ∙ sym (facts_with (map item_of c.args.items.now) (map (λ f. formula_of f.now) c.args.heads.now)))

pub returns : goal.returns
returns c = IfOk-weaker c.judge_all.result _ _ (λ shown told. (
    let items : List Item = map item_of c.args.items.now ++ map Fact (map (λ f. formula_of f.now) c.args.heads.now) in
    let names = c.args.asked.now.atoms.now in
    let beliefs : List Formula = map (λ b. formula_of b.now) c.args.asked.now.beliefs.now in
    subst (λ (vs : List SetCert). MatchOption shown ((views : List ℕ) → ¬ IsAcceptedDefault names items beliefs views (map verdict_of vs)) (λ views. IsAcceptedDefault names items beliefs views.items (map verdict_of vs))) c.deref-3.ensures.value told)) c.judge_all.ensures
