use Rattle.std.proofs.Common.{◌≡◌, ◌+◌, ◌-◌, ℕ, length, sym, subst, arith}
use Rattle.mcs_engine.specs.Marking.{AreUnmarked}
use Rattle.mcs_engine.proofs.MarkLemmas.{free-taken_off, single-taken_off}
use Rattle.mcs_engine.proofs.ReasonLemmas.{resolved-more, resolved-none}
use Rattle.mcs_engine.proofs.shorten.shorten.Goals as goal

pub loop-bound-preserved : goal.loop-bound-preserved
loop-bound-preserved c = record {
  bound = omega arith;
  early = omega arith;
  resolved = resolved-more _ _ _ _ _ _ _ c.loop-bound.invariant.resolved c.in_ok-resolve_at.ensures.resolved;
  single = λ some. single-taken_off _ _ _ _ (omega arith) c.in_ok-resolve_at.ensures.off (c.loop-bound.invariant.single some);
  past = λ none.
      let next : c.loop-bound.bound ≡ c.loop-bound.bound - 1 + 1 = omega arith in
      free-taken_off _ c.loop-bound.marks.items c.resolve_at.new.marks.items (c.loop-bound.bound - 1) (sym c.loop-bound.invariant.resolved.marked.marking.sized) c.in_ok-resolve_at.ensures.off
      (subst (λ (n : ℕ). AreUnmarked c.loop-bound.marks.items n (length c.args.trail.now.entries.items)) next (c.loop-bound.invariant.past none));
}

pub loop-bound-init : goal.loop-bound-init
loop-bound-init c = record {
  bound = (let ok = c.args.trail.now.entries.ok.0 in omega (arith, c.len.ensures, c.min-bound.ensures));
  early = omega (arith, c.min-bound.ensures);
  resolved = resolved-none _ _ _ _ c.requires.marked;
  single = c.requires.single;
  past = λ none q from less marked. (let ok = c.args.trail.now.entries.ok.0 in omega (arith, c.len.ensures, c.min-bound.ensures));
}
