use Rattle.std.proofs.Common.{arith}
use Rattle.std.proofs.lemmas.Grind.{common_steps}
use Rattle.mcs_system.proofs.build.first_flaw.Goals as goal

pub returns-then-has_misfits : goal.returns-then-has_misfits
returns-then-has_misfits c = grind (arith, common_steps)

pub returns-else-has_misfits : goal.returns-else-has_misfits
returns-else-has_misfits c = grind (arith, common_steps)
