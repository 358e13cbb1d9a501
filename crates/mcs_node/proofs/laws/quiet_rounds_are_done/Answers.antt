use Rattle.mcs_node.proofs.QuietLemmas.{quiet_rounds_are_done, halts_have_a_source}
use Rattle.mcs_node.proofs.laws.quiet_rounds_are_done.Goals as goal

pub returns : goal.returns
returns c = record { done = quiet_rounds_are_done; source = halts_have_a_source }
