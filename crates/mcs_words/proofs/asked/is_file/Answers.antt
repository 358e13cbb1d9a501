use Rattle.std.proofs.Common.{arith, rules}
use Rattle.std.proofs.lemmas.Grind.{common_steps}
use Rattle.mcs_words.proofs.asked.is_file.Goals as goal

pub returns-then-not-is_empty : goal.returns-then-not-is_empty
returns-then-not-is_empty c = search rules

pub returns-else-not-is_empty : goal.returns-else-not-is_empty
returns-else-not-is_empty c = grind (arith, common_steps)
