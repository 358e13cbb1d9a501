use Rattle.mcs_draw.proofs.Rule.{begins}
use Rattle.mcs_draw.proofs.laws.words_begin_with_the_rule.Goals as goal

pub returns : goal.returns
returns c = begins
