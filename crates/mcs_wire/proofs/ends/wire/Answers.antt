use Rattle.mcs_wire.proofs.Steps.{channel_begins}
use Rattle.mcs_wire.proofs.ends.wire.Goals as goal

pub bounded_with-requires-clause-rule : goal.bounded_with-requires-clause-rule
bounded_with-requires-clause-rule c = channel_begins
