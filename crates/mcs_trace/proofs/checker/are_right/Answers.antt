use Rattle.std.proofs.Common.{sym, ◌∙◌, true≢false}
use Rattle.mcs_trace.proofs.TraceLemmas.{steps-more}
use Rattle.mcs_trace.proofs.checker.are_right.Goals as goal

pub returns-then-not-branch : goal.returns-then-not-branch
returns-then-not-branch c =
    let more = steps-more c.args.clauses.now c.args.steps.now c.loop-index.index c.index-steps-index.result c.loop-index-test.true c.index-steps-index.is in (
      λ e. absurd (true≢false (sym e)),
      λ h. absurd (true≢false (sym (c.in_ok-is_right.ensures.1 (more.0 (c.loop-index.invariant.0 h)).0) ∙ c.if-not-branch.true)),
    )

pub loop-index-preserved : goal.loop-index-preserved
loop-index-preserved c =
    let more = steps-more c.args.clauses.now c.args.steps.now c.loop-index.index c.index-steps-index.result c.loop-index-test.true c.index-steps-index.is in (
      λ h. (more.0 (c.loop-index.invariant.0 h)).1,
      λ h. c.loop-index.invariant.1 (more.1 (c.in_ok-is_right.ensures.0 c.if-not-branch.false, h)),
    )
