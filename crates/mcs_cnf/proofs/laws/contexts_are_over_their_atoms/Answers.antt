use Rattle.mcs_cnf.proofs.OverLemmas.{context_atoms}
use Rattle.mcs_cnf.proofs.laws.contexts_are_over_their_atoms.Goals as goal

pub returns : goal.returns
returns c = context_atoms
