use Rattle.mcs_node.proofs.ReplayLemmas.{outcomes_add_up, one_thing_is_told, events_have_replays, quiet_replays_end, replays_tell_truth}
use Rattle.mcs_node.proofs.laws.replays_add_up.Goals as goal

pub returns : goal.returns
returns c = record { sum = outcomes_add_up; one = one_thing_is_told; replay = events_have_replays; quiet = quiet_replays_end; halt = replays_tell_truth }
