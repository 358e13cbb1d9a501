use Rattle.std.proofs.Common.{◌∙◌, sym, true≢false}
use Rattle.mcs_sets.specs.Sets.{Meets, Within}
use Rattle.mcs_base.proofs.Each.{all_take_more}
use Rattle.mcs_transversal.proofs.berge.has_none_within.Goals as goal
use Rattle.mcs_transversal.proofs.berge.has_none_within.Goals.{else-meets-via-then-meets+else-within, else-meets-via-else-meets}

pub loop-s-preserved : goal.loop-s-preserved
loop-s-preserved c =
    all_take_more (λ s. Meets s c.args.edge → ¬ Within s c.args.grown) c.args.ts.now c.loop-s.s-index c.s-item.result c.loop-s-test.true c.s-item.is c.loop-s.invariant (elim c.else-meets.branch [
      | else-meets-via-then-meets+else-within w ↦ λ _ within. true≢false (sym (w.within.ensures.1 within) ∙ w.if-within.false)
      | else-meets-via-else-meets w ↦ λ meets _. true≢false (sym (c.meets.ensures.1 meets) ∙ w.if-meets.false)
    ])
