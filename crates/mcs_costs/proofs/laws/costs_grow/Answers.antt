use Rattle.mcs_costs.proofs.CostLemmas.{cost_within}
use Rattle.mcs_costs.proofs.laws.costs_grow.Goals as goal

pub returns : goal.returns
returns c = cost_within
