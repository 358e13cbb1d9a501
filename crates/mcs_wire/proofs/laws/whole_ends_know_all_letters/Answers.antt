use Rattle.mcs_wire.proofs.Rule.{knows}
use Rattle.mcs_wire.proofs.laws.whole_ends_know_all_letters.Goals as goal

pub returns : goal.returns
returns c = knows
