use Rattle.mcs_cnf.proofs.MeaningLemmas.{meaning}
use Rattle.mcs_cnf.proofs.laws.clauses_mean_the_formulas.Goals as goal

pub returns : goal.returns
returns c = meaning
