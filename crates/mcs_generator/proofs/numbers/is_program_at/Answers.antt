use Rattle.std.proofs.Common.{arith}
use Rattle.std.proofs.lemmas.Grind.{common_steps}
use Rattle.mcs_generator.proofs.numbers.is_program_at.Goals as goal

pub returns-then-context-eq0 : goal.returns-then-context-eq0
returns-then-context-eq0 c = grind (arith, common_steps)

pub returns-else-context-eq0 : goal.returns-else-context-eq0
returns-else-context-eq0 c = grind (arith, common_steps)
