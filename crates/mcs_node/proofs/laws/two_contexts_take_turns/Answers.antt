use Rattle.mcs_node.proofs.WorkedLemmas.{turns_are_taken, impossible_is_skipped, stops_are_carried, memory_may_run_out, answers_may_be_missing}
use Rattle.mcs_node.proofs.laws.two_contexts_take_turns.Goals as goal

pub returns : goal.returns
returns c = record { turns = turns_are_taken; skips = impossible_is_skipped; stops = stops_are_carried; memory = memory_may_run_out; missing = answers_may_be_missing }
