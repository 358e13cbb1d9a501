use Rattle.mcs_trace.proofs.OrderLemmas.{turned}
use Rattle.mcs_meant.proofs.gates.opposite.Goals as goal

pub returns : goal.returns
returns c = turned c.args.literal c.requires
