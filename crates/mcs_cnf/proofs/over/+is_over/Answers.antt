use Rattle.std.proofs.Common.{arith}
use Rattle.std.proofs.lemmas.Grind.{common_steps}
use Rattle.mcs_cnf.proofs.over.+is_over.Goals as goal

pub returns-then-is_over : goal.returns-then-is_over
returns-then-is_over t c = grind (arith, common_steps)

pub returns-else-is_over : goal.returns-else-is_over
returns-else-is_over t c = grind (arith, common_steps)
