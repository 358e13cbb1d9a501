use Rattle.mcs_cheapest.proofs.ListedLaws.{cheapest_are_one, cheapest_exist, least_cost_exists, least_cost_is_one}
use Rattle.mcs_cheapest.proofs.laws.cheapest_are_listed.Goals as goal

pub returns : goal.returns
returns c = record { listed = cheapest_exist; one = cheapest_are_one; cost = least_cost_exists; same = least_cost_is_one }
