use Rattle.std.proofs.Common.{arith}
use Rattle.std.proofs.lemmas.Grind.{common_steps}
use Rattle.mcs_cnf.proofs.occurrences.push_sign.Goals as goal

pub returns-in-Implies : goal.returns-in-Implies
returns-in-Implies c = grind (arith, common_steps)
