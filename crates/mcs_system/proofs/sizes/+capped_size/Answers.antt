use Rattle.std.proofs.Common.{arith}
use Rattle.std.proofs.lemmas.Grind.{common_steps}
use Rattle.mcs_system.proofs.sizes.+capped_size.Goals as goal

pub returns : goal.returns
returns t c = grind (arith, common_steps)
