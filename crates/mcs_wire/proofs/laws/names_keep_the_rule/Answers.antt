use Rattle.mcs_wire.proofs.Rule.{names}
use Rattle.mcs_wire.proofs.laws.names_keep_the_rule.Goals as goal

pub returns : goal.returns
returns c = names
