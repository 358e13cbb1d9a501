use Rattle.std.proofs.Common.{arith}
use Rattle.std.proofs.lemmas.Grind.{common_steps}
use Rattle.mcs_words.proofs.tally.Tally.is_whole.Goals as goal

pub returns-then-self-le1-2 : goal.returns-then-self-le1-2
returns-then-self-le1-2 c = grind (arith, common_steps)

pub returns-else-self-le1-2 : goal.returns-else-self-le1-2
returns-else-self-le1-2 c = grind (arith, common_steps)
