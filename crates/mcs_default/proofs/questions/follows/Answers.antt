use Rattle.std.proofs.Common.{rules, is_ok, ℕ, Some, Option, List, ◌++◌, length, map, refl, sym, subst}
use Rattle.std.proofs.lemmas.List.{length-map}
use Rattle.mcs_base.proofs.Booleans.{true_tells, false_tells}
use Rattle.mcs_system.specs.Plain.{Formula}
use Rattle.mcs_system.specs.Seen.{default_of, formula_of}
use Rattle.mcs_classical.specs.Models.{IsCounterexample}
use Rattle.mcs_evidence.specs.Defaults.{facts_of}
use Rattle.mcs_grounding.specs.Theories.{AreClausesOf, consequents}
use Rattle.mcs_default.proofs.FindingLemmas.{none_follows, some_denies, ready_upper, refuted_upper}
use Rattle.mcs_default.proofs.questions.follows.Goals as goal

pub returns-in-None : goal.returns-in-None
returns-in-None c = record {
  kept = search rules;
  exact = λ items parts. (let names = c.args.search.now.theory.now.asked.now.atoms.now in
      let ds = map (λ d. default_of d.now) c.args.search.now.theory.now.defaults.now in
      let g : Formula = formula_of c.args.goal.now in
      true_tells (none_follows names items ds c.args.search.now.findings.facts c.args.set g parts
      (subst (λ (o : Option ℕ). (fs : List Formula) → AreClausesOf names fs c.args.search.now.findings.facts → IsCounterexample names (fs ++ consequents ds c.args.set) g o) c.in-None.is c.in_ok-counterexample.ensures.exact)));
}

pub returns-in_ok-push-in-Some : goal.returns-in_ok-push-in-Some
returns-in_ok-push-in-Some c = record {
  kept = search rules;
  exact = λ items parts. (let names = c.args.search.now.theory.now.asked.now.atoms.now in
      let ds = map (λ d. default_of d.now) c.args.search.now.theory.now.defaults.now in
      let g : Formula = formula_of c.args.goal.now in
      false_tells (some_denies names items ds c.args.search.now.findings.facts c.args.set c.in-Some.values g parts
      (subst (λ (o : Option ℕ). (fs : List Formula) → AreClausesOf names fs c.args.search.now.findings.facts → IsCounterexample names (fs ++ consequents ds c.args.set) g o) c.in-Some.is c.in_ok-counterexample.ensures.exact)));
}

pub invariant_of-search-in-Some : goal.invariant_of-search-in-Some
invariant_of-search-in-Some c =
    let names = c.args.search.now.theory.now.asked.now.atoms.now in
    let ds = map (λ d. default_of d.now) c.args.search.now.theory.now.defaults.now in
    let n = length c.args.search.now.theory.now.defaults.now in
    let g : Formula = formula_of c.args.goal.now in
    let x = c.upper_at.result in
    let told : (fs : List Formula) → AreClausesOf names fs c.args.search.now.findings.facts → IsCounterexample names (fs ++ consequents ds c.args.set) g (Some c.in-Some.values) =
    subst (λ (o : Option ℕ). (fs : List Formula) → AreClausesOf names fs c.args.search.now.findings.facts → IsCounterexample names (fs ++ consequents ds c.args.set) g o) c.in-Some.is c.in_ok-counterexample.ensures.exact in
    record {
      ready = ready_upper names ds c.args.search.now.findings (record { facts = c.counterexample.new.known; lower = c.args.search.now.findings.lower; upper = c.push.new.self; conflicts = c.args.search.now.findings.conflicts }) c.args.search.now.ready c.in_ok-counterexample.ensures.kept (is_ok c.push.result) x refl refl c.push.ensures.items (λ items is_of.
          (refuted_upper names items ds n c.args.set c.in-Some.values g x is_of.0 (sym (length-map c.args.search.now.theory.now.defaults.now (λ d. default_of d.now))) (told (facts_of items) is_of.1)
          c.upper_at.ensures.values c.upper_at.ensures.set c.upper_at.ensures.supported c.upper_at.ensures.allowed));
    }
