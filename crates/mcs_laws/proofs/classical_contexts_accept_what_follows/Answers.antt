use Rattle.mcs_laws.proofs.Classical.{classical_part}
use Rattle.mcs_laws.proofs.classical_contexts_accept_what_follows.Goals as goal

pub returns : goal.returns
returns c = classical_part
