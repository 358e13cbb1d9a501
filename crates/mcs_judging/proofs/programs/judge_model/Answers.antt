use Rattle.mcs_asked.specs.Questions.{program_rules, program_beliefs}
use Rattle.mcs_judging.proofs.Readings.{told_err}
use Rattle.mcs_judging.proofs.ProgramLemmas.{model_failed, model_shown, model_not_shown}
use Rattle.mcs_judging.proofs.programs.judge_model.Goals as goal

pub returns-in_err-is_shown : goal.returns-in_err-is_shown
returns-in_err-is_shown c = told_err _ _ _ _ _ c.from_residual-in_err-is_shown.ensures.1
    (model_failed c.args.texts.now c.args.lines.now c.take_atoms.new.lines c.in_ok-model.model c.in_ok-model.ensures _ c.in_err-is_shown.ensures)

pub returns-then-not-is_shown : goal.returns-then-not-is_shown
returns-then-not-is_shown c =
    model_not_shown c.args.texts.now c.args.lines.now c.take_atoms.new.lines c.in_ok-model.model c.in_ok-model.ensures c.args.program.now.atoms.now (program_rules c.args.program.now) (program_beliefs c.args.program.now) c.judge_minimal.new.lines
    c.in_ok-is_shown.is_shown c.in_ok-is_shown.ensures c.if-not-is_shown.true

pub returns : goal.returns
returns c =
    model_shown c.args.texts.now c.args.lines.now c.take_atoms.new.lines c.in_ok-model.model c.in_ok-model.ensures c.args.program.now.atoms.now (program_rules c.args.program.now) (program_beliefs c.args.program.now) c.judge_minimal.new.lines
    c.in_ok-is_shown.is_shown c.in_ok-is_shown.ensures c.numbered-places.result c.view_of.result c.if-not-is_shown.false c.numbered-places.ensures c.view_of.ensures
