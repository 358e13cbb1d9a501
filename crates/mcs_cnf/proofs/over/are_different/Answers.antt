use Rattle.std.proofs.Common.{arith}
use Rattle.std.proofs.lemmas.Grind.{common_steps}
use Rattle.mcs_cnf.proofs.over.are_different.Goals as goal

pub returns-then-is_atom : goal.returns-then-is_atom
returns-then-is_atom c = grind (arith, common_steps)
