use Rattle.mcs_steps.proofs.Judged.{passed_err}
use Rattle.mcs_judging.proofs.Readings.{yes_failed}
use Rattle.mcs_judging.proofs.Ways.{yes_passed}
use Rattle.mcs_judging.proofs.order.pass_yes.Goals as goal

pub returns-in_err-expect : goal.returns-in_err-expect
returns-in_err-expect c = passed_err _ _ _ _ c.from_residual.ensures.1 (yes_failed c.args.lines.now _ c.in_err-expect.ensures)

pub returns : goal.returns
returns c = yes_passed c.args.lines.now c.expect.new.lines c.pass_trace.new.lines c.pass_trace.result c.in_ok-expect.ensures c.pass_trace.ensures
