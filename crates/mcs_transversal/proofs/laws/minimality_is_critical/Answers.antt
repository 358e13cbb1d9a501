use Rattle.mcs_transversal.proofs.CriticalLemmas.{minimality_is_critical}
use Rattle.mcs_transversal.proofs.laws.minimality_is_critical.Goals as goal

pub returns : goal.returns
returns c = minimality_is_critical
