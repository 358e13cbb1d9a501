use Rattle.std.proofs.Common.{◌≡◌, ◌∙◌, ◌<◌, ℕ, List, sym, subst, true≢false}
use Rattle.std.proofs.lemmas.List.Elements.{recursion_from_All}
use Rattle.std.specs.List.{AllByRecursion}
use Rattle.mcs_sets.specs.Sets.{members, union, single}
use Rattle.mcs_transversal.specs.Transversals.{IsCritical}
use Rattle.mcs_transversal.proofs.BergeLemmas.{grows-more, grows-skip, grows-end, grows-all}
use Rattle.mcs_transversal.proofs.berge.grow_by_edges.Goals as goal

pub loop-mark-init : goal.loop-mark-init
loop-mark-init c =
    let all : c.into_iter-mark-iterator.result ≡ members c.args.edge = c.into_iter-mark-iterator.ensures.into_iter_gives ∙ c.members-mark-items.ensures.list in record {
      below = rw c.into_iter-mark-iterator.ensures.into_iter_gives (recursion_from_All _ _ c.members-mark-items.ensures.below);
      put = λ x. rw all (λ h. h, λ h. h);
    }

pub loop-mark-preserved-in-Continue-1 : goal.loop-mark-preserved-in-Continue-1
loop-mark-preserved-in-Continue-1 c =
    let out : List ℕ = c.loop-mark.out.items in
    let is : IsCritical c.args.edges.now (union c.args.t (single c.in-Some.mark)) = c.stays_critical.ensures.0 c.if-stays_critical.true in
    let steps = c.in-Some.ensures.steps in record {
      below = (subst (AllByRecursion (λ k. k < 128)) steps c.loop-mark.invariant.below).1;
      put = λ x. let before = rw steps at (c.loop-mark.invariant.put x) in let more = grows-more c.args.edges.now out c.args.t c.in-Some.mark c.next.new.self is x in
          rw (c.in_ok-push.ensures.items, c.with.ensures) (λ h. more.0 (before.0 h), λ h. before.1 (more.1 h));
    }

pub loop-mark-preserved : goal.loop-mark-preserved
loop-mark-preserved c =
    let out : List ℕ = c.loop-mark.out.items in
    let not : ¬ IsCritical c.args.edges.now (union c.args.t (single c.in-Some.mark)) = λ is. true≢false (sym (c.stays_critical.ensures.1 is) ∙ c.if-stays_critical.false) in
    let steps = c.in-Some.ensures.steps in record {
      below = (subst (AllByRecursion (λ k. k < 128)) steps c.loop-mark.invariant.below).1;
      put = λ x. let before = rw steps at (c.loop-mark.invariant.put x) in let skip = grows-skip c.args.edges.now out c.args.t c.in-Some.mark c.next.new.self not x in
          (λ h. skip.0 (before.0 h), λ h. before.1 (skip.1 h));
    }

pub returns : goal.returns
returns c x =
    let before = rw c.in-None.ensures.steps.0 at (c.loop-mark.invariant.put x) in
    let end = grows-end c.args.edges.now c.loop-mark.out.items c.args.t x in
    let all = grows-all c.args.edges.now c.args.out.now.items c.args.edge c.args.t c.requires x in
    (λ a. all.0 (before.1 (end.1 a)), λ h. end.0 (before.0 (all.1 h)))
