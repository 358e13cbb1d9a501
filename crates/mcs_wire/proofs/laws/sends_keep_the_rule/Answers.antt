use Rattle.mcs_wire.proofs.Rule.{sends}
use Rattle.mcs_wire.proofs.laws.sends_keep_the_rule.Goals as goal

pub returns : goal.returns
returns c = sends
