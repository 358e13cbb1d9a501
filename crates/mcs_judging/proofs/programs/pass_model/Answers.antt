use Rattle.mcs_judging.proofs.ProgramLemmas.{model_passed}
use Rattle.mcs_judging.proofs.programs.pass_model.Goals as goal

pub returns : goal.returns
returns c = model_passed c.args.texts.now c.args.lines.now c.take_atoms.new.lines c.in_ok-take_atoms.field-0 c.in_ok-take_atoms.ensures c.pass_trace.result c.pass_trace.new.lines c.pass_trace.ensures
