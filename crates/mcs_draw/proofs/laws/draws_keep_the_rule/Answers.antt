use Rattle.mcs_draw.proofs.Rule.{draws}
use Rattle.mcs_draw.proofs.laws.draws_keep_the_rule.Goals as goal

pub returns : goal.returns
returns c = draws
