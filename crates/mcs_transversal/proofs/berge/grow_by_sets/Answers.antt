use Rattle.std.proofs.Common.{◌≡◌, ◌∙◌, ◌<◌, ◌++◌, [], ◌∷◌, IsTrue, sym, subst, true≢false}
use Rattle.std.proofs.lemmas.List.Elements.{recursion_from_All}
use Rattle.std.specs.List.{AllByRecursion}
use Rattle.mcs_sets.specs.Sets.{has, members}
use Rattle.mcs_sets.proofs.SetLemmas.{members-each}
use Rattle.mcs_transversal.proofs.BergeLemmas.{critical_from_none, none_from_critical, grows-more, grows-skip, grows-end, grows-all}
use Rattle.mcs_transversal.proofs.berge.grow_by_sets.Goals as goal

pub loop-mark-init : goal.loop-mark-init
loop-mark-init c =
    let all : c.into_iter-mark-iterator.result ≡ members c.args.edge = c.into_iter-mark-iterator.ensures.into_iter_gives ∙ c.members-mark-items.ensures.list in record {
      below = rw c.into_iter-mark-iterator.ensures.into_iter_gives (recursion_from_All _ _ c.members-mark-items.ensures.below);
      in_edge = rw all (recursion_from_All _ _ (members-each (λ k. IsTrue (has c.args.edge k)) c.args.edge (λ k is. is)));
      put = λ before whole x. rw all (λ h. h, λ h. h);
    }

pub loop-mark-preserved-in-Continue-1 : goal.loop-mark-preserved-in-Continue-1
loop-mark-preserved-in-Continue-1 c =
    let steps = c.in-Some.ensures.steps in
    let in_edge = subst (AllByRecursion (λ k. IsTrue (has c.args.edge k))) steps c.loop-mark.invariant.in_edge in record {
      below = (subst (AllByRecursion (λ k. k < 128)) steps c.loop-mark.invariant.below).1;
      in_edge = in_edge.1;
      put = λ before whole x.
          let critical = critical_from_none before c.args.edge c.args.t c.in-Some.mark c.args.ts.now whole c.requires.among c.requires.apart in_edge.0
          (rw (sym c.with-grown.ensures) (c.has_none_within.ensures.0 c.if-has_none_within.true)) in
          let put = rw steps at (c.loop-mark.invariant.put before whole x) in
          let more = grows-more (before ++ c.args.edge ∷ []) c.loop-mark.out.items c.args.t c.in-Some.mark c.next.new.self critical x in
          rw (c.in_ok-push.ensures.items, c.with-grown.ensures) (λ h. more.0 (put.0 h), λ h. put.1 (more.1 h));
    }

pub loop-mark-preserved : goal.loop-mark-preserved
loop-mark-preserved c =
    let steps = c.in-Some.ensures.steps in
    let in_edge = subst (AllByRecursion (λ k. IsTrue (has c.args.edge k))) steps c.loop-mark.invariant.in_edge in record {
      below = (subst (AllByRecursion (λ k. k < 128)) steps c.loop-mark.invariant.below).1;
      in_edge = in_edge.1;
      put = λ before whole x.
          let put = rw steps at (c.loop-mark.invariant.put before whole x) in
          let skip = grows-skip (before ++ c.args.edge ∷ []) c.loop-mark.out.items c.args.t c.in-Some.mark c.next.new.self
          (λ critical. true≢false (sym (c.has_none_within.ensures.1 (rw c.with-grown.ensures (none_from_critical before c.args.edge c.args.t c.in-Some.mark c.args.ts.now whole c.requires.among c.requires.apart in_edge.0 critical))) ∙ c.if-has_none_within.false)) x in
          (λ h. skip.0 (put.0 h), λ h. put.1 (skip.1 h));
    }

pub returns : goal.returns
returns c before whole x =
    let put = rw c.in-None.ensures.steps.0 at (c.loop-mark.invariant.put before whole x) in
    let end = grows-end (before ++ c.args.edge ∷ []) c.loop-mark.out.items c.args.t x in
    let all = grows-all (before ++ c.args.edge ∷ []) c.args.out.now.items c.args.edge c.args.t c.requires.apart x in
    (λ a. all.0 (put.1 (end.1 a)), λ h. end.0 (put.0 (all.1 h)))
