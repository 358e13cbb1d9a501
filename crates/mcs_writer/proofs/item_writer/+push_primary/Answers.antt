use Rattle.std.proofs.Common.{arith}
use Rattle.std.proofs.lemmas.Grind.{common_steps}
use Rattle.mcs_writer.proofs.item_writer.+push_primary.Goals as goal

pub returns-in_ok-push_primary-in-And-2 : goal.returns-in_ok-push_primary-in-And-2
returns-in_ok-push_primary-in-And-2 t c = grind (arith, common_steps)
