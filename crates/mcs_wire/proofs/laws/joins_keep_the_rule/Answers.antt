use Rattle.mcs_wire.proofs.Rule.{joins}
use Rattle.mcs_wire.proofs.laws.joins_keep_the_rule.Goals as goal

pub returns : goal.returns
returns c = joins
