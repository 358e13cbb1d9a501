use Rattle.std.proofs.Common.{◌≡◌, ◌+◌, ◌-◌, Bool, ℕ, List, length, inr, sym, subst, arith}
use Rattle.mcs_engine.specs.Marking.{AreUnmarked, IsMarkedWithin}
use Rattle.mcs_engine.proofs.MarkLemmas.{free-taken_off}
use Rattle.mcs_engine.proofs.ReasonLemmas.{resolved-more}
use Rattle.mcs_engine.proofs.analysis.resolve_back.Goals as goal

pub loop-bound-preserved : goal.loop-bound-preserved
loop-bound-preserved c =
    let n : ℕ = length c.args.trail.now.entries.items in
    let old : List Bool = c.loop-bound.marks.items in
    let off = c.in_ok-resolve_at.ensures.off in
    let (p, low, less, marked) = subst (λ (marks : List Bool). IsMarkedWithin marks c.args.start (c.loop-bound.bound - 1)) c.deref.ensures.value c.if-not-is_any_marked.ensures in
    let next : c.loop-bound.bound ≡ c.loop-bound.bound - 1 + 1 = omega arith in
    let bound = c.loop-bound.invariant.bound in
    record {
      bound = omega arith;
      resolved = resolved-more _ _ _ _ _ _ _ c.loop-bound.invariant.resolved c.in_ok-resolve_at.ensures.resolved;
      free = free-taken_off n old c.resolve_at.new.marks.items (c.loop-bound.bound - 1) (sym c.loop-bound.invariant.resolved.marked.marking.sized) off (subst (λ (k : ℕ). AreUnmarked old k n) next c.loop-bound.invariant.free);
      late = inr (p, low, less, off.kept p (λ e. omega arith) marked);
    }
