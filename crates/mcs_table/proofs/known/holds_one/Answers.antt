use Rattle.std.proofs.Common.{sym, ◌∙◌, true≢false}
use Rattle.mcs_base.proofs.AntichainLemmas.{one_within-later}
use Rattle.mcs_table.proofs.known.holds_one.Goals as goal

pub loop-set-preserved : goal.loop-set-preserved
loop-set-preserved c =
    let more = one_within-later c.args.sets.now c.args.marks c.loop-set.set-index c.set-item.result c.loop-set-test.true c.set-item.is (λ within. true≢false (sym (c.within.ensures.1 within) ∙ c.if-within.false)) in
    (λ h. more.0 (c.loop-set.invariant.0 h), λ h. c.loop-set.invariant.1 (more.1 h))
