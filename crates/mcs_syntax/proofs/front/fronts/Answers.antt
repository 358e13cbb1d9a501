use Rattle.std.proofs.Common.{arith, ◌+◌, length, length-append, slice_get, inl, inr, sym, ap, ◌∙◌}
use Rattle.std.proofs.lemmas.Option.{none-some}
use Rattle.mcs_base.proofs.Lists.{slice_get_push_at}
use Rattle.mcs_syntax.specs.Grammar.{front, front_by, front_at}
use Rattle.mcs_syntax.specs.Parts.{expr_at}
use Rattle.mcs_syntax.proofs.front.fronts.Goals as goal

pub loop-place-init : goal.loop-place-init
loop-place-init g c = (ap length c.new-fronts.ensures.items, λ k f e. absurd (none-some f (sym (ap (λ l. slice_get l k) c.new-fronts.ensures.items) ∙ e)))

pub loop-place-preserved : goal.loop-place-preserved
loop-place-preserved g c =
    let h = c.loop-place.invariant in
    let e = c.in_ok-push.ensures.items in (
      ap length e ∙ length-append _ _ ∙ ap (λ n. n + 1) h.0,
      λ k f is. elim (slice_get_push_at c.loop-place.fronts.items _ k f (ap (λ l. slice_get l k) (sym e) ∙ is)) [
        | inl old ↦ h.1 k f old
        | inr w ↦ w.1 ∙ c.front_of.ensures ∙ ap (λ d. front_by (g.N.Rules).grammar (front_at (g.N.Rules).grammar d) (expr_at c.args.parts.now c.loop-place.place)) c.depth.ensures ∙ ap (λ j. front (g.N.Rules).grammar (expr_at c.args.parts.now j)) (sym (w.0 ∙ h.0))
      ],
    )

pub returns : goal.returns
returns g c = (omega (arith, c.loop-place.invariant.0, c.loop-place.auto.place-end, c.loop-place-test.false), c.loop-place.invariant.1)
