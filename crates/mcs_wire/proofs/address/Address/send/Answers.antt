use Rattle.std.proofs.Common.{◌∙◌, ap, sym, arith}
use Rattle.crossbeam_channel.specs.Ends.{sends_on}
use Rattle.mcs_wire.specs.Ends.{address_of, with_sent}
use Rattle.mcs_wire.proofs.EndLemmas.{address_sends}
use Rattle.mcs_wire.proofs.address.Address.send.Goals as goal

pub send_on-requires-clause-at : goal.send_on-requires-clause-at
send_on-requires-clause-at g c = c.self.invariant.at

pub send_on-requires-clause-parts : goal.send_on-requires-clause-parts
send_on-requires-clause-parts g c = omega (arith, c.self.invariant.some_part, c.self.invariant.parts_is)

pub send_on-requires-clause-plan : goal.send_on-requires-clause-plan
send_on-requires-clause-plan g c = c.requires.plan ∙ sym (ap (λ a. a.wire.plan) c.self.view_is)

pub invariant_of-self : goal.invariant_of-self
invariant_of-self g c = address_sends _ _ _ _ _ _ c.self.invariant c.send_on.ensures.at c.send_on.ensures.sent

pub returns : goal.returns
returns g c = ap (address_of (sends_on c.self.inside.sender)) c.send_on.ensures.sent ∙ ap (with_sent c.args.letter) c.self.view_is
