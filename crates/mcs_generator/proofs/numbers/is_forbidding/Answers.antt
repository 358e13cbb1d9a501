use Rattle.std.proofs.Common.{arith}
use Rattle.std.proofs.lemmas.Grind.{common_steps}
use Rattle.mcs_generator.proofs.numbers.is_forbidding.Goals as goal

pub returns-then-inconsistent : goal.returns-then-inconsistent
returns-then-inconsistent c = grind (arith, common_steps)

pub returns-else-inconsistent : goal.returns-else-inconsistent
returns-else-inconsistent c = grind (arith, common_steps)
