use Rattle.std.proofs.Common.{arith}
use Rattle.mcs_wire.proofs.Steps.{join_allowed, look_allowed}
use Rattle.mcs_wire.proofs.address.Address.join.Goals as goal

pub absorb-requires-clause-rule : goal.absorb-requires-clause-rule
absorb-requires-clause-rule c = join_allowed _ _ _ _ (omega (arith, c.self.invariant.some_part, c.self.invariant.parts_is))

pub learn_as-requires-clause-rule : goal.learn_as-requires-clause-rule
learn_as-requires-clause-rule c = look_allowed _ _
