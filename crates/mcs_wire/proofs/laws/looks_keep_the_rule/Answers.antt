use Rattle.mcs_wire.proofs.Rule.{looks}
use Rattle.mcs_wire.proofs.laws.looks_keep_the_rule.Goals as goal

pub returns : goal.returns
returns c = looks
