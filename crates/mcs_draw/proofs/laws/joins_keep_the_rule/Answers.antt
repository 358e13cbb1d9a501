use Rattle.mcs_draw.proofs.Rule.{joins}
use Rattle.mcs_draw.proofs.laws.joins_keep_the_rule.Goals as goal

pub returns : goal.returns
returns c = joins
