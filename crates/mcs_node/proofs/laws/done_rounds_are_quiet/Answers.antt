use Rattle.mcs_node.proofs.DoneLemmas.{done_rounds_are_quiet}
use Rattle.mcs_node.proofs.laws.done_rounds_are_quiet.Goals as goal

pub returns : goal.returns
returns c = done_rounds_are_quiet
