use Rattle.mcs_evidence.specs.Programs.{IsAcceptedModel}
use Rattle.mcs_proof_lines.specs.Programs.{model_at}
use Rattle.mcs_asked.specs.Questions.{program_rules, program_beliefs}
use Rattle.mcs_judging.proofs.Readings.{told_err}
use Rattle.mcs_judging.proofs.ProgramLemmas.{none_shown, shown_more, one_failed, rest_failed, rest_passed, shown_all}
use Rattle.mcs_judging.proofs.programs.judge_models.Goals as goal

pub loop-left-init : goal.loop-left-init
loop-left-init c =
    none_shown (model_at c.args.texts.now) (IsAcceptedModel c.args.program.now.atoms.now (program_rules c.args.program.now) (program_beliefs c.args.program.now)) c.args.count c.args.lines.now _ c.new-views.ensures.items

pub returns-in_err-shown : goal.returns-in_err-shown
returns-in_err-shown c = told_err _ _ _ _ _ c.from_residual.ensures.1
    (one_failed (model_at c.args.texts.now) c.args.count c.loop-left.left c.args.lines.now c.loop-left.lines c.loop-left.invariant.so_far c.loop-left-test.true _ c.in_err-shown.ensures)

pub returns-in_err-pass_models : goal.returns-in_err-pass_models
returns-in_err-pass_models c = told_err _ _ _ _ _ c.from_residual-in_err-pass_models.ensures.1
    (rest_failed (model_at c.args.texts.now) (IsAcceptedModel c.args.program.now.atoms.now (program_rules c.args.program.now) (program_beliefs c.args.program.now)) c.args.count c.loop-left.left c.args.lines.now c.loop-left.lines c.judge_model.new.lines
    c.loop-left.views.items c.loop-left.invariant c.loop-left-test.true c.in_ok-shown.shown c.in_ok-shown.ensures c.in_default.is _ c.in_err-pass_models.ensures)

pub returns-in_default : goal.returns-in_default
returns-in_default c =
    rest_passed (model_at c.args.texts.now) (IsAcceptedModel c.args.program.now.atoms.now (program_rules c.args.program.now) (program_beliefs c.args.program.now)) c.args.count c.loop-left.left c.args.lines.now c.loop-left.lines c.judge_model.new.lines
    c.loop-left.views.items c.loop-left.invariant c.loop-left-test.true c.in_ok-shown.shown c.in_ok-shown.ensures c.in_default.is c.pass_models.new.lines c.in_ok-pass_models.ensures

pub loop-left-preserved : goal.loop-left-preserved
loop-left-preserved c =
    shown_more (model_at c.args.texts.now) (IsAcceptedModel c.args.program.now.atoms.now (program_rules c.args.program.now) (program_beliefs c.args.program.now)) c.args.count c.loop-left.left c.args.lines.now c.loop-left.lines c.judge_model.new.lines
    c.loop-left.views.items c.loop-left.invariant c.loop-left-test.true c.in_ok-shown.shown c.in_ok-shown.ensures c.in-Some.view c.push.new.self.items c.in-Some.is c.in_ok-push.ensures.items

pub returns : goal.returns
returns c =
    shown_all (model_at c.args.texts.now) (IsAcceptedModel c.args.program.now.atoms.now (program_rules c.args.program.now) (program_beliefs c.args.program.now)) c.args.count c.loop-left.left c.args.lines.now c.loop-left.lines c.loop-left.views
    c.loop-left.invariant c.loop-left-test.false
