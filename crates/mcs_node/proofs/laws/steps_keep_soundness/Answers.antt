use Rattle.mcs_node.proofs.StepLemmas.{first_is_sound, steps_keep_soundness, runs_are_sound}
use Rattle.mcs_node.proofs.laws.steps_keep_soundness.Goals as goal

pub returns : goal.returns
returns c = record { first = first_is_sound; step = steps_keep_soundness; run = runs_are_sound }
