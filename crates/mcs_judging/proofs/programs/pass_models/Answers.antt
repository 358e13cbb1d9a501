use Rattle.mcs_proof_lines.specs.Programs.{model_at}
use Rattle.mcs_steps.proofs.Judged.{passed_err}
use Rattle.mcs_judging.proofs.ProgramLemmas.{none_so_far, one_more, one_failed, passed_all}
use Rattle.mcs_judging.proofs.programs.pass_models.Goals as goal

pub loop-left-init : goal.loop-left-init
loop-left-init c = none_so_far (model_at c.args.texts.now) c.args.count c.args.lines.now

pub loop-left-preserved : goal.loop-left-preserved
loop-left-preserved c =
    one_more (model_at c.args.texts.now) c.args.count c.loop-left.left c.args.lines.now c.loop-left.lines c.loop-left.invariant c.loop-left-test.true c.in_ok-pass_model.ensures.value c.pass_model.new.lines c.in_ok-pass_model.ensures.is

pub returns-in_err-pass_model : goal.returns-in_err-pass_model
returns-in_err-pass_model c = passed_err _ _ _ _ c.from_residual.ensures.1
    (one_failed (model_at c.args.texts.now) c.args.count c.loop-left.left c.args.lines.now c.loop-left.lines c.loop-left.invariant c.loop-left-test.true _ c.in_err-pass_model.ensures)

pub returns : goal.returns
returns c = passed_all (model_at c.args.texts.now) c.args.count c.loop-left.left c.args.lines.now c.loop-left.lines c.loop-left.invariant c.loop-left-test.false
