use Rattle.std.proofs.Common.{arith}
use Rattle.std.proofs.lemmas.Grind.{common_steps}
use Rattle.mcs_words.proofs.setting.Setting.most.Goals as goal

pub returns-in-Workers : goal.returns-in-Workers
returns-in-Workers c = grind (arith, common_steps)
