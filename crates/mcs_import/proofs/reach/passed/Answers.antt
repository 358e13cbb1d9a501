use Rattle.std.proofs.Common.{arith}
use Rattle.std.proofs.lemmas.Grind.{common_steps}
use Rattle.mcs_import.proofs.reach.passed.Goals as goal

pub returns-then-has : goal.returns-then-has
returns-then-has c = grind (arith, common_steps)
