use Rattle.std.proofs.lemmas.Result.{IfOk-weaker}
use Rattle.std.specs.Option.{option_map}
use Rattle.mcs_trace.specs.Traces.{inference_of}
use Rattle.mcs_spelling.proofs.LiteralTexts.{step_told}
use Rattle.mcs_spelling.proofs.steps.read_step.Goals as goal

pub returns-clause-spelled : goal.returns-clause-spelled
returns-clause-spelled c = IfOk-weaker c.step_in.result _ _ (λ o is. step_told c.args.line.now (option_map inference_of o) is) c.step_in.ensures
