use Rattle.mcs_table.proofs.CommuteLemmas.{forgetting_commutes}
use Rattle.mcs_table.proofs.laws.forgetting_commutes.Goals as goal

pub returns : goal.returns
returns c = forgetting_commutes
