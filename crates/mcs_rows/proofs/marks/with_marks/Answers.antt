use Rattle.std.proofs.Common.{◌≡◌, ◌<◌, ◌||◌, ◌+◌, ◌*◌, ℕ, List, sym, ap, subst, ◌∙◌}
use Rattle.std.proofs.lemmas.List.Elements.{recursion_from_All}
use Rattle.std.proofs.Math.Bool.{or-false}
use Rattle.std.specs.List.{AllByRecursion}
use Rattle.mcs_sets.specs.Sets.{has, members}
use Rattle.mcs_base.proofs.SetParts.{has-with_or}
use Rattle.mcs_rows.proofs.MarkLemmas.{is_marked, marked-members}
use Rattle.mcs_rows.proofs.marks.with_marks.Goals as goal

pub loop-rule-init : goal.loop-rule-init
loop-rule-init c =
    let all : c.into_iter-rule-iterator.result ≡ members c.args.rules = c.into_iter-rule-iterator.ensures.into_iter_gives ∙ c.members-rule-items.ensures.list in record {
      marked = λ k. ap (λ (rs : List ℕ). has c.args.marks k || is_marked c.args.offset rs k) all ∙ ap (λ u. has c.args.marks k || u) (marked-members c.args.offset c.args.rules k c.requires);
      known = subst (AllByRecursion (λ k. k < 64)) (sym c.into_iter-rule-iterator.ensures.into_iter_gives) (recursion_from_All (λ k. k < 64) c.members-rule-items.result c.members-rule-items.ensures.below);
    }

pub loop-rule-preserved : goal.loop-rule-preserved
loop-rule-preserved c = record {
  marked = λ k. (let old = ap (λ (rs : List ℕ). has c.loop-rule.all k || is_marked c.args.offset rs k) (sym c.in-Some.ensures.steps) ∙ c.loop-rule.invariant.marked k in
      ap (λ s. has s k || is_marked c.args.offset c.next.new.self k) c.with-all.ensures ∙ has-with_or c.loop-rule.all (2 * c.in-Some.rule + c.args.offset) k (is_marked c.args.offset c.next.new.self k) _ old);
  known = (subst (AllByRecursion (λ k. k < 64)) c.in-Some.ensures.steps c.loop-rule.invariant.known).1;
}

pub returns : goal.returns
returns c = λ k. sym (or-false (has c.loop-rule.all k)) ∙ ap (λ (rs : List ℕ). has c.loop-rule.all k || is_marked c.args.offset rs k) (sym c.in-None.ensures.steps.0) ∙ c.loop-rule.invariant.marked k
