use Rattle.std.proofs.Common.{◌≡◌, ◌∙◌, ◌<◌, sym, ap, subst, true≢false, IsTrue, inl, inr}
use Rattle.std.proofs.lemmas.List.Elements.{recursion_from_All}
use Rattle.std.specs.List.{AllByRecursion}
use Rattle.mcs_sets.specs.Sets.{has, members}
use Rattle.mcs_sets.proofs.SetLemmas.{has-empty, members-each}
use Rattle.mcs_sets.proofs.Lattice.{in_union, in_minus}
use Rattle.mcs_transversal.proofs.BarredLemmas.{common_is_barred}
use Rattle.mcs_transversal.proofs.barred.barred.Goals as goal

pub loop-mark-init : goal.loop-mark-init
loop-mark-init c =
    let all : c.into_iter-mark-iterator.result ≡ members c.args.t = c.into_iter-mark-iterator.ensures.into_iter_gives ∙ c.members-mark-items.ensures.list in record {
      below = rw c.into_iter-mark-iterator.ensures.into_iter_gives (recursion_from_All _ _ c.members-mark-items.ensures.below);
      in_set = rw all (recursion_from_All _ _ (members-each (λ k. IsTrue (has c.args.t k)) c.args.t (λ k is. is)));
      all = λ m is. absurd (true≢false (sym is ∙ ap (λ s. has s m) c.empty-all.ensures ∙ has-empty m));
    }

pub loop-mark-preserved : goal.loop-mark-preserved
loop-mark-preserved c =
    let steps = c.in-Some.ensures.steps in
    let below = subst (AllByRecursion (λ k. k < 128)) steps c.loop-mark.invariant.below in
    let in_set = subst (AllByRecursion (λ k. IsTrue (has c.args.t k))) steps c.loop-mark.invariant.in_set in record {
      below = below.1;
      in_set = in_set.1;
      all = λ m is. elim (in_union _ _ m (ap (λ s. has s m) (sym c.union-all.ensures) ∙ is)) [
        | inl before ↦ c.loop-mark.invariant.all m before
        | inr new ↦ common_is_barred c.args.edges.now c.args.t c.common_parts-parts.result c.common_parts-parts.ensures c.in-Some.mark c.index-parts-mark.result below.0 c.index-parts-mark.is in_set.0 m (ap (λ s. has s m) c.index-parts-mark.is ∙ new)
      ];
    }

pub returns : goal.returns
returns c m is = let both = in_minus _ c.args.t m (ap (λ s. has s m) (sym c.minus.ensures) ∙ is) in c.loop-mark.invariant.all m both.0 both.1
