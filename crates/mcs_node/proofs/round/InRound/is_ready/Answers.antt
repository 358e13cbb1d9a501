use Rattle.std.proofs.Common.{arith}
use Rattle.std.proofs.lemmas.Grind.{common_steps}
use Rattle.mcs_node.proofs.round.InRound.is_ready.Goals as goal

pub returns-in-Waits : goal.returns-in-Waits
returns-in-Waits c = grind (arith, common_steps)
