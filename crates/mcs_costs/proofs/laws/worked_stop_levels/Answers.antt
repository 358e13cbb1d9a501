use Rattle.mcs_costs.proofs.WorkedCosts.{forcing_is_cheapest, light_rules_delay, barred_is_unpaid, consistent_is_free}
use Rattle.mcs_costs.proofs.laws.worked_stop_levels.Goals as goal

pub returns : goal.returns
returns c = record { forcing = forcing_is_cheapest; light = light_rules_delay; barred = barred_is_unpaid; consistent = consistent_is_free }
