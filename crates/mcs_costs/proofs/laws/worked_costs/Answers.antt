use Rattle.mcs_costs.proofs.WorkedCosts.{marks_cost, both_are_paid}
use Rattle.mcs_costs.proofs.laws.worked_costs.Goals as goal

pub returns : goal.returns
returns c = record { marks = marks_cost; both = both_are_paid }
