use Rattle.std.proofs.Common.{arith}
use Rattle.mcs_wire.proofs.Steps.{possible, take_allowed}
use Rattle.mcs_wire.proofs.inbox.Inbox.try_take.Goals as goal

pub try_recv_as-requires-clause-rule : goal.try_recv_as-requires-clause-rule
try_recv_as-requires-clause-rule g c = (take_allowed _ _ (omega (arith, c.self.invariant.reads)), possible _ _)
