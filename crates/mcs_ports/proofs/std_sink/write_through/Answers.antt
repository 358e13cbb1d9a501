use Rattle.std.proofs.Common.{arith}
use Rattle.std.proofs.lemmas.Grind.{common_steps}
use Rattle.mcs_ports.proofs.std_sink.write_through.Goals as goal

pub returns-clause-progress : goal.returns-clause-progress
returns-clause-progress g c = grind (arith, common_steps)
