use Rattle.mcs_system.specs.Seen.{formula_of}
use Rattle.mcs_steps.proofs.Judged.{judged_err}
use Rattle.mcs_judging.proofs.Readings.{yes_failed, yes_judged}
use Rattle.mcs_judging.proofs.entailments.judge_yes.Goals as goal

pub returns-in_err-expect-clause-exact : goal.returns-in_err-expect-clause-exact
returns-in_err-expect-clause-exact c = λ fs is. judged_err _ _ _ _ _ c.from_residual.ensures.1 (yes_failed c.args.lines.now _ c.in_err-expect.ensures)

pub returns-clause-exact : goal.returns-clause-exact
returns-clause-exact c = λ fs is.
    yes_judged c.args.lines.now c.args.atoms.now fs (formula_of c.args.goal.now) c.expect.new.lines c.judge_refutation.new.lines c.judge_refutation.result c.in_ok-expect.ensures (c.judge_refutation.ensures.exact fs is)
