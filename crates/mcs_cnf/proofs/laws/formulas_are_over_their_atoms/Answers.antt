use Rattle.mcs_cnf.proofs.OverLemmas.{over_atoms}
use Rattle.mcs_cnf.proofs.laws.formulas_are_over_their_atoms.Goals as goal

pub returns : goal.returns
returns c = over_atoms
