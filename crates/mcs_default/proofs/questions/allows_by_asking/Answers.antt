use Rattle.std.proofs.Common.{rules, is_ok, ◌≡◌, List, map, refl, subst, IsTrue, ◌↔◌, Bool}
use Rattle.std.specs.List.{AllByRecursion}
use Rattle.mcs_base.proofs.Booleans.{true_tells, false_tells}
use Rattle.mcs_base.proofs.Mapped.{image_each_at}
use Rattle.mcs_system.specs.Plain.{Formula, Not}
use Rattle.mcs_system.specs.declared.formula.Formula as code
use Rattle.mcs_system.specs.Logic.{Entails}
use Rattle.mcs_system.specs.Seen.{default_of, formula_of}
use Rattle.mcs_evidence.specs.Defaults.{generated}
use Rattle.mcs_evidence.specs.Theories.{IsOverDefault}
use Rattle.mcs_default.specs.Searches.{IsAllowedBy}
use Rattle.mcs_default.proofs.FindingLemmas.{lower_blocked, ready_lower}
use Rattle.mcs_default.proofs.SearchLemmas.{default_there}
use Rattle.std.proofs.lemmas.Bool.{iff_false}
use Rattle.mcs_grounding.specs.Asked.{theory_names, theory_defaults}
use Rattle.mcs_default.proofs.SameLemmas.{same_before}
use Rattle.mcs_default.proofs.questions.allows_by_asking.Goals as goal

-- the justifications that are asked are the default's
asked : (fs : List Formula) (js js' : List code.Formula) (b : Bool) → js' ≡ js → IsTrue b ↔ AllByRecursion (λ j. ¬ Entails fs (Not j)) (map formula_of js') → IsTrue b ↔ AllByRecursion (λ j. ¬ Entails fs (Not j)) (map formula_of js)
asked fs js js' b same is = subst (λ (xs : List code.Formula). IsTrue b ↔ AllByRecursion (λ j. ¬ Entails fs (Not j)) (map formula_of xs)) same is

pub allows_all-requires : goal.allows_all-requires
allows_all-requires c = record { over = (rw c.deref-3.ensures.value ((image_each_at (IsOverDefault c.args.search.now.theory.now.asked.now.atoms.now) (λ d. default_of d.now) c.args.search.now.theory.now.defaults.now c.args.index c.index-defaults-index.result c.requires.index c.args.search.now.theory.now.over).1)) }

pub returns-in_ok-push : goal.returns-in_ok-push
returns-in_ok-push c = record {
  kept = search rules;
  exact = λ items parts d at. (default_there (λ x. default_of x.now) c.args.search.now.theory.now.defaults.now items c.args.index c.index-defaults-index.result c.requires.index parts.0 d at (λ d. IsTrue c.in_ok-is_allowed.is_allowed ↔ IsAllowedBy (generated items c.args.set) d)
      (asked (generated items c.args.set) _ _ c.in_ok-is_allowed.is_allowed c.deref-3.ensures.value (c.in_ok-is_allowed.ensures.exact items parts)));
}

pub returns-else-not-is_allowed : goal.returns-else-not-is_allowed
returns-else-not-is_allowed c = record {
  kept = search rules;
  exact = λ items parts d at. (default_there (λ x. default_of x.now) c.args.search.now.theory.now.defaults.now items c.args.index c.index-defaults-index.result c.requires.index parts.0 d at (λ d. IsTrue c.in_ok-is_allowed.is_allowed ↔ IsAllowedBy (generated items c.args.set) d)
      (asked (generated items c.args.set) _ _ c.in_ok-is_allowed.is_allowed c.deref-3.ensures.value (c.in_ok-is_allowed.ensures.exact items parts)));
}

pub returns-then-is_allowed : goal.returns-then-is_allowed
returns-then-is_allowed c = record {
  kept = search rules;
  exact = λ items parts d at. (true_tells (c.is_allowed.ensures c.args.search.now.theory.now.asked.now.atoms.now items (rw c.deref.ensures.value ((c.args.search.now.ready.right items parts).1)) c.if-is_allowed.true d at));
}

pub invariant_of-search : goal.invariant_of-search
invariant_of-search c =
    let now = c.allows_all.new.search in
    let same = c.in_ok-is_allowed.ensures.kept in
    record {
      ready = ready_lower (theory_names now.theory.now) (theory_defaults now.theory.now) now.findings (record { facts = now.findings.facts; lower = c.push.new.self; upper = now.findings.upper; conflicts = now.findings.conflicts }) now.ready refl (is_ok c.push.result)
          (record { set = c.args.set; supported = c.empty.result; blocked = c.one.result }) refl refl c.push.ensures.items (λ items parts.
          (let before = same_before items same parts in
          lower_blocked items (record { set = c.args.set; supported = c.empty.result; blocked = c.one.result }) c.args.set c.args.index refl c.empty.ensures c.one.ensures (λ d at.
          (default_there (λ x. default_of x.now) c.args.search.now.theory.now.defaults.now items c.args.index c.index-defaults-index.result c.requires.index before.0 d at (λ d. ¬ IsAllowedBy (generated items c.args.set) d)
          (iff_false (asked (generated items c.args.set) _ _ c.in_ok-is_allowed.is_allowed c.deref-3.ensures.value (c.in_ok-is_allowed.ensures.exact items before)) c.if-not-is_allowed.true)))));
    }

pub returns-then-is_blocked : goal.returns-then-is_blocked
returns-then-is_blocked c = record {
  kept = (refl, refl);
  exact = λ items parts d at. false_tells (c.is_blocked.ensures items (rw c.deref-2.ensures.value ((c.args.search.now.ready.right items parts).0)) c.if-is_blocked.true d at);
}
