use Rattle.mcs_node.proofs.PlayingLemmas.{new_nodes_are_first, begins_are_steps, begun_is_skipped, ungranted_is_skipped, strangers_are_ignored, unsent_is_skipped}
use Rattle.mcs_node.proofs.PlayedLemmas.{grants_are_steps, letters_are_steps}
use Rattle.mcs_node.proofs.laws.calls_are_steps.Goals as goal

pub returns : goal.returns
returns c = record {
  first = new_nodes_are_first;
  begin = begins_are_steps;
  begun = begun_is_skipped;
  grant = grants_are_steps;
  ungranted = ungranted_is_skipped;
  letter = letters_are_steps;
  stranger = strangers_are_ignored;
  unsent = unsent_is_skipped;
}
