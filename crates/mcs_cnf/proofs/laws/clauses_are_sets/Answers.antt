use Rattle.mcs_cnf.proofs.ClauseLemmas.{clause_listing}
use Rattle.mcs_cnf.proofs.laws.clauses_are_sets.Goals as goal

pub returns : goal.returns
returns c = clause_listing
