use Rattle.std.proofs.Common.{◌≡◌, ◌<◌, ◌∙◌, ◌∷◌, [], ℕ, List, sym, ap, subst}
use Rattle.std.proofs.lemmas.List.Elements.{recursion_from_All}
use Rattle.std.specs.List.{AllByRecursion}
use Rattle.mcs_sets.specs.Sets.{members}
use Rattle.mcs_base.proofs.ListingLemmas.{members_listing}
use Rattle.mcs_import.proofs.SetTable.{AreSoFar, so_far_begins, so_far_more, so_far_ends}
use Rattle.mcs_import.proofs.fewest.sets_of.Goals as goal

pub loop-rule-init : goal.loop-rule-init
loop-rule-init c =
    let all : c.into_iter-rule-iterator.result ≡ members c.args.rules = c.into_iter-rule-iterator.ensures.into_iter_gives ∙ c.members-rule-items.ensures.list in record {
      sets = so_far_begins (members c.args.rules) c.into_iter-rule-iterator.result c.in_ok-all.all.items all (c.in_ok-all.ensures.items ∙ ap (λ (x : ℕ). x ∷ []) c.empty.ensures);
      known = subst (AllByRecursion (λ k. k < 64)) (sym c.into_iter-rule-iterator.ensures.into_iter_gives) (recursion_from_All (λ k. k < 64) c.members-rule-items.result c.members-rule-items.ensures.below);
    }

pub loop-rule-preserved : goal.loop-rule-preserved
loop-rule-preserved c = record {
  sets = so_far_more (members c.args.rules) c.in-Some.rule c.next.new.self c.loop-rule.all.items c.add_with_rule.new.sets.items (members_listing c.args.rules).ascending
      (subst (λ (rs : List ℕ). AreSoFar (members c.args.rules) rs c.loop-rule.all.items) c.in-Some.ensures.steps c.loop-rule.invariant.sets) c.in_ok-add_with_rule.ensures;
  known = (subst (AllByRecursion (λ k. k < 64)) c.in-Some.ensures.steps c.loop-rule.invariant.known).1;
}

pub returns : goal.returns
returns c = so_far_ends (members c.args.rules) c.loop-rule.rule-iterator c.loop-rule.all.items c.in-None.ensures.steps.0 c.loop-rule.invariant.sets
