use Rattle.std.proofs.Common.{◌∙◌, ap, sym, arith}
use Rattle.mcs_wire.proofs.Steps.{possible, send_allowed}
use Rattle.mcs_wire.proofs.address.send_on.Goals as goal

pub send_as-requires-clause-rule : goal.send_as-requires-clause-rule
send_as-requires-clause-rule g c =
    let i = c.loop.invariant in
    (send_allowed _ _ _ _ (omega (arith, ap (λ v. v.parts) i.1, c.requires.parts)) (ap (λ x. x.plan) i.0 ∙ c.requires.plan ∙ sym (ap (λ v. v.plan) i.1)), possible _ _)
