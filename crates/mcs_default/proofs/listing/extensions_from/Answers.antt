use Rattle.std.proofs.Common.{◌≡◌, ◌∙◌, ◌++◌, length, map, sym, ap, subst, arith}
use Rattle.std.proofs.lemmas.Result.{IfOk-weaker}
use Rattle.std.proofs.lemmas.List.{length-map}
use Rattle.mcs_system.specs.Plain.{Fact}
use Rattle.mcs_system.specs.Seen.{default_of, formula_of, item_of}
use Rattle.mcs_cnf.specs.ClauseLists.{clause_list}
use Rattle.mcs_cnf.proofs.GrowingLemmas.{room_known}
use Rattle.mcs_evidence.specs.Defaults.{facts_of, defaults_of, verdicts_of}
use Rattle.mcs_evidence.proofs.DefaultCertificates.{defaults_sound}
use Rattle.mcs_evidence.specs.Theories.{AreOverDefaults}
use Rattle.mcs_evidence.proofs.TheoryLemmas.{facts_with, defaults_with, over_with_facts, over_facts, over_defaults}
use Rattle.mcs_default.proofs.listing.extensions_from.Goals as goal

pub invariant_of-theory : goal.invariant_of-theory
invariant_of-theory c = record {
  different = c.args.given.now.different;
  few_defaults = omega (arith, ap length c.deref.ensures.value, length-map c.in_ok-defaults.defaults.items (λ d. default_of d.now), ap length c.in_ok-defaults.ensures, c.requires.few_defaults);
  over = subst (AreOverDefaults c.args.given.now.asked.now.atoms.now) (sym (ap (map (λ d. default_of d.now)) c.deref.ensures.value ∙ c.in_ok-defaults.ensures)) (over_defaults c.args.given.now.asked.now.atoms.now (map item_of c.args.items.now) c.requires.items);
}

pub judge_all-requires : goal.judge_all-requires
judge_all-requires c = record { room = room_known c.args.given.now.asked.now.atoms.now c.in_ok-known.known (facts_of (map item_of c.args.items.now) ++ map (λ f. formula_of f.now) c.args.added.now) c.in_ok-known.ensures }

pub returns-clause-accepted : goal.returns-clause-accepted
returns-clause-accepted c =
    let names = c.args.given.now.asked.now.atoms.now in
    let items = map item_of c.args.items.now in
    let fs = map (λ f. formula_of f.now) c.args.added.now in
    let same : map (λ d. default_of d.now) c.deref.result.now ≡ defaults_of (items ++ map Fact fs) = ap (map (λ d. default_of d.now)) c.deref.ensures.value ∙ c.in_ok-defaults.ensures ∙ sym (defaults_with items fs) in
    let known : c.in_ok-known.known ≡ clause_list names (facts_of (items ++ map Fact fs)) = c.in_ok-known.ensures ∙ ap (clause_list names) (sym (facts_with items fs)) in
    IfOk-weaker c.judge_all.result _ _
    (λ r accepted. accepted (items ++ map Fact fs) (same, (known, over_facts names (items ++ map Fact fs) (over_with_facts names items fs c.requires.items c.requires.added)))) c.judge_all.ensures.accepted

pub returns-clause-exact : goal.returns-clause-exact
returns-clause-exact c =
    let names = c.args.given.now.asked.now.atoms.now in
    let items = map item_of c.args.items.now in
    let fs = map (λ f. formula_of f.now) c.args.added.now in
    IfOk-weaker c.judge_all.result _ _
    (λ r accepted. defaults_sound names (items ++ map Fact fs) (map (λ b. formula_of b.now) c.args.given.now.asked.now.beliefs.now) r.0.items (verdicts_of r.1) (over_with_facts names items fs c.requires.items c.requires.added) c.args.given.now.asked.now.over accepted) (returns-clause-accepted c)
