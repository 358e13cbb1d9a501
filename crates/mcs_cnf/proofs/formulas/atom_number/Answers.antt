use Rattle.std.proofs.Common.{arith}
use Rattle.std.proofs.lemmas.Grind.{common_steps}
use Rattle.mcs_cnf.proofs.formulas.atom_number.Goals as goal

pub returns-then-is : goal.returns-then-is
returns-then-is c = grind (arith, common_steps)
