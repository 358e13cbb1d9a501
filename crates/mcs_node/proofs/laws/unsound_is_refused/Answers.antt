use Rattle.mcs_node.proofs.UnsoundLemmas.{unsound_is_refused}
use Rattle.mcs_node.proofs.ExampleLemmas.{example_is_of_two}
use Rattle.mcs_node.proofs.laws.unsound_is_refused.Goals as goal

pub returns : goal.returns
returns c = record { unsound = unsound_is_refused; example = example_is_of_two }
