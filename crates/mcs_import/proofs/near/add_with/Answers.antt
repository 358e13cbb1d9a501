use Rattle.std.proofs.Common.{◌≡◌, ◌<◌, ◌↔◌, List, ℕ, sym, subst, ◌∙◌}
use Rattle.std.proofs.lemmas.List.Elements.{recursion_from_All}
use Rattle.std.specs.List.{AllByRecursion}
use Rattle.mcs_sets.specs.Sets.{union, single, members}
use Rattle.mcs_import.proofs.NearLemmas.{IsAdded, added_step, added_end}
use Rattle.mcs_import.proofs.near.add_with.Goals as goal

pub loop-rule-init : goal.loop-rule-init
loop-rule-init c =
    let change : ℕ → ℕ = λ r. union c.args.set (single r) in
    let all : c.into_iter-rule-iterator.result ≡ members c.args.rules = c.into_iter-rule-iterator.ensures.into_iter_gives ∙ c.members-rule-items.ensures.list in record {
      added = λ x. subst (λ (rs : List ℕ). IsAdded change c.args.reached.now rs c.args.found.now.items x ↔ IsAdded change c.args.reached.now (members c.args.rules) c.args.found.now.items x) (sym all) (λ h. h, λ h. h);
      known = subst (AllByRecursion (λ k. k < 64)) (sym c.into_iter-rule-iterator.ensures.into_iter_gives) (recursion_from_All (λ k. k < 64) c.members-rule-items.result c.members-rule-items.ensures.below);
    }

pub loop-rule-preserved : goal.loop-rule-preserved
loop-rule-preserved c = let change : ℕ → ℕ = λ r. union c.args.set (single r) in record {
  added = λ x. (let step = added_step change c.args.reached.now c.in-Some.rule c.next.new.self c.loop-rule.found.items c.add_new.new.found.items c.with.result c.with.ensures c.in_ok-add_new.ensures x in
      let old = subst (λ (rs : List ℕ). IsAdded change c.args.reached.now rs c.loop-rule.found.items x ↔ IsAdded change c.args.reached.now (members c.args.rules) c.args.found.now.items x) c.in-Some.ensures.steps (c.loop-rule.invariant.added x) in
      (λ h. old.0 (step.0 h), λ h. step.1 (old.1 h)));
  known = (subst (AllByRecursion (λ k. k < 64)) c.in-Some.ensures.steps c.loop-rule.invariant.known).1;
}

pub returns : goal.returns
returns c =
    let change : ℕ → ℕ = λ r. union c.args.set (single r) in
    added_end change c.args.reached.now c.args.rules c.args.found.now.items c.loop-rule.found.items
    (λ x. subst (λ (rs : List ℕ). IsAdded change c.args.reached.now rs c.loop-rule.found.items x ↔ IsAdded change c.args.reached.now (members c.args.rules) c.args.found.now.items x) c.in-None.ensures.steps.0 (c.loop-rule.invariant.added x))
