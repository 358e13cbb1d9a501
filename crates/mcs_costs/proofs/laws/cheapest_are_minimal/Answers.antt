use Rattle.mcs_costs.proofs.CheapestLemmas.{cheapest_minimal}
use Rattle.mcs_costs.proofs.ExistLemmas.{cheapest_exists}
use Rattle.mcs_costs.proofs.StopLemmas.{cheapest_few}
use Rattle.mcs_costs.proofs.laws.cheapest_are_minimal.Goals as goal

pub returns : goal.returns
returns c = record { minimal = cheapest_minimal; few = cheapest_few; exist = cheapest_exists }
