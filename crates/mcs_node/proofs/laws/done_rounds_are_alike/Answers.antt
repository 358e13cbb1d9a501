use Rattle.mcs_node.proofs.AlikeLemmas.{done_rounds_are_alike}
use Rattle.mcs_node.proofs.GreatestLemmas.{greatest_total_is_the_count}
use Rattle.mcs_node.proofs.laws.done_rounds_are_alike.Goals as goal

pub returns : goal.returns
returns c = record { alike = done_rounds_are_alike; greatest = greatest_total_is_the_count }
