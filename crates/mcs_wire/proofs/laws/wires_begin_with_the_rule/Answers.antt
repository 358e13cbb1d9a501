use Rattle.mcs_wire.proofs.Rule.{begins}
use Rattle.mcs_wire.proofs.laws.wires_begin_with_the_rule.Goals as goal

pub returns : goal.returns
returns c = begins
