use Rattle.mcs_draw.proofs.Rule.{splits}
use Rattle.mcs_draw.proofs.laws.splits_keep_the_rule.Goals as goal

pub returns : goal.returns
returns c = splits
