use Rattle.mcs_node.proofs.ReplayLemmas.{turns_are_told, skips_are_told, spent_is_told, example_is_spent}
use Rattle.mcs_node.proofs.ExampleLemmas.{example_needs_one_each}
use Rattle.mcs_node.proofs.laws.two_contexts_are_replayed.Goals as goal

pub returns : goal.returns
returns c = record { turns = turns_are_told; skips = skips_are_told; spent = spent_is_told; one_each = example_needs_one_each; example = example_is_spent }
