use Rattle.std.proofs.Common.{◌∙◌, ap, arith, rules}
use Rattle.crossbeam_channel.specs.Claims.{view}
use Rattle.mcs_wire.proofs.Settling.{IsEnd, ends}
use Rattle.mcs_wire.proofs.Steps.{join_allowed}
use Rattle.mcs_wire.proofs.settled.settle.Goals as goal

pub absorb-requires-clause-rule : goal.absorb-requires-clause-rule
absorb-requires-clause-rule g c = join_allowed _ _ _ _ (omega (arith, c.address.invariant.some_part, c.address.invariant.parts_is))

-- what the pass knows in the end
end : (g : _) (c : goal.After-len g) → IsEnd (view c.address.inside.pass) (view c.inbox.inside.pass) (view c.drain.new.pass) c.in_ok-left.left.items c.address.inside.sent c.len.result
end g c = ends (view c.address.inside.pass) (view c.inbox.inside.pass) (view c.absorb.new.pass) (view c.drain.new.pass) c.in_ok-left.left.items c.address.inside.sent c.len.result
    c.address.invariant.taken c.inbox.invariant.sent c.address.invariant.sent_is c.absorb.ensures.rule c.in_ok-left.ensures.kept c.in_ok-left.ensures.taken c.in_ok-left.ensures.together (search rules)

pub overflow_sub-got : goal.overflow_sub-got
overflow_sub-got g c = (end g c).few

pub invariant_of-result : goal.invariant_of-result
invariant_of-result g c = (end g c).settled

-- the same when the other ends are gone
returned : (g : _) (c : goal.After-drop-sender-2 g) → IsEnd (view c.address.inside.pass) (view c.inbox.inside.pass) (view c.drain.new.pass) c.in_ok-left.left.items c.address.inside.sent c.len.result
returned g c = ends (view c.address.inside.pass) (view c.inbox.inside.pass) (view c.absorb.new.pass) (view c.drain.new.pass) c.in_ok-left.left.items c.address.inside.sent c.len.result
    c.address.invariant.taken c.inbox.invariant.sent c.address.invariant.sent_is c.absorb.ensures.rule c.in_ok-left.ensures.kept c.in_ok-left.ensures.taken c.in_ok-left.ensures.together (search rules)

pub returns-clause-got : goal.returns-clause-got
returns-clause-got g c = (returned g c).got_is ∙ ap (λ i. i.taken) c.inbox.view_is

pub returns-clause-together : goal.returns-clause-together
returns-clause-together g c = (returned g c).settled.together
