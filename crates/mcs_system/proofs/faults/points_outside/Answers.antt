use Rattle.std.proofs.Common.{arith}
use Rattle.std.proofs.lemmas.Grind.{common_steps}
use Rattle.mcs_base.proofs.Ranges.{any_of_both}
use Rattle.mcs_system.proofs.faults.points_outside.Goals as goal

pub returns-else-any_outside : goal.returns-else-any_outside
returns-else-any_outside c = grind (arith, common_steps, any_of_both)
