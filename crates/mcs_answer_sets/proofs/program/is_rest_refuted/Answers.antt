use Rattle.std.proofs.Common.{arith}
use Rattle.std.proofs.lemmas.Grind.{common_steps}
use Rattle.mcs_answer_sets.proofs.program.is_rest_refuted.Goals as goal

pub returns : goal.returns
returns c = grind (arith, common_steps)
