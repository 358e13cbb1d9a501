use Rattle.std.proofs.Common.{ap, arith}
use Rattle.mcs_wire.proofs.Steps.{possible, take_allowed}
use Rattle.mcs_wire.proofs.inbox.take_on.Goals as goal

pub recv_as-requires-clause-rule : goal.recv_as-requires-clause-rule
recv_as-requires-clause-rule g c = (take_allowed _ _ (omega (arith, ap (λ v. v.reads) c.loop.invariant.0, c.requires.reads)), possible _ _)
