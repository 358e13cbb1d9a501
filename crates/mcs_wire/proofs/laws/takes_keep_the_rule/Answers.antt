use Rattle.mcs_wire.proofs.Rule.{takes}
use Rattle.mcs_wire.proofs.laws.takes_keep_the_rule.Goals as goal

pub returns : goal.returns
returns c = takes
