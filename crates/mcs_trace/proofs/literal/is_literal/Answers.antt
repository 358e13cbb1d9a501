use Rattle.std.proofs.Common.{arith}
use Rattle.std.proofs.lemmas.Grind.{common_steps}
use Rattle.mcs_trace.proofs.literal.is_literal.Goals as goal

pub returns-then-number-ne0 : goal.returns-then-number-ne0
returns-then-number-ne0 c = grind (arith, common_steps)

pub returns-else-number-ne0 : goal.returns-else-number-ne0
returns-else-number-ne0 c = grind (arith, common_steps)
