use Rattle.std.proofs.Common.{arith}
use Rattle.std.proofs.lemmas.Grind.{common_steps}
use Rattle.mcs_ports.proofs.whole.read_whole.Goals as goal

pub returns-clause-fault : goal.returns-clause-fault
returns-clause-fault g c = grind (arith, common_steps)

pub returns-clause-within : goal.returns-clause-within
returns-clause-within g c = c.read_rest.ensures.within

pub returns-clause-stops : goal.returns-clause-stops
returns-clause-stops g c = grind (arith, common_steps)
