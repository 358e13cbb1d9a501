use Rattle.std.proofs.Common.{ap, arith}
use Rattle.mcs_wire.proofs.Steps.{split_allowed}
use Rattle.mcs_wire.proofs.address.Address.split.Goals as goal

pub another-pass-requires-clause-rule : goal.another-pass-requires-clause-rule
another-pass-requires-clause-rule c = split_allowed _ _ (omega (arith, c.requires, ap (λ a. a.parts) c.self.view_is))
