use Rattle.std.proofs.Common.{arith}
use Rattle.mcs_wire.proofs.Steps.{knows_all, take_allowed}
use Rattle.mcs_wire.proofs.settled.drain.Goals as goal

pub try_recv_as-requires-clause-rule : goal.try_recv_as-requires-clause-rule
try_recv_as-requires-clause-rule g c = (take_allowed _ _ (omega (arith, c.loop.invariant.1, c.requires.whole.0)), knows_all _ _)
