use Rattle.mcs_costs.proofs.ExistLemmas.{stop_exists}
use Rattle.mcs_costs.proofs.StopLemmas.{stop_is_one, stop_is_quotient, stop_without}
use Rattle.mcs_costs.proofs.laws.stop_level_is_a_quotient.Goals as goal

pub returns : goal.returns
returns c = record { quotient = stop_is_quotient; without = stop_without; exist = stop_exists; one = stop_is_one }
