use Rattle.mcs_wire.proofs.Rule.{splits}
use Rattle.mcs_wire.proofs.laws.splits_keep_the_rule.Goals as goal

pub returns : goal.returns
returns c = splits
