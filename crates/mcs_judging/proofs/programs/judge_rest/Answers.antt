use Rattle.mcs_steps.proofs.Judged.{judged_err, judges_same}
use Rattle.mcs_judging.specs.Programs.{Refutes, Completes}
use Rattle.mcs_judging.proofs.ProgramLemmas.{rest_read, line_failed}
use Rattle.mcs_judging.proofs.programs.judge_rest.Goals as goal

pub returns-in_err-expect : goal.returns-in_err-expect
returns-in_err-expect c = judged_err _ _ _ _ _ c.from_residual.ensures.1 (line_failed _ c.args.lines.now c.in_err-expect.ensures)

pub returns : goal.returns
returns c =
    rest_read (Completes c.args.program.now c.args.smaller.now c.args.shown.now) c.judge_refutation-judged.result c.args.lines.now c.expect.new.lines c.judge_refutation-judged.new.lines c.in_ok-expect.ensures
    (judges_same (Refutes c.in_ok-clauses.clauses) _ c.judge_refutation-judged.result _ _ c.in_ok-clauses.ensures c.judge_refutation-judged.ensures)
