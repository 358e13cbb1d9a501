use Rattle.std.specs.Arc.{arc_value}
use Rattle.mcs_crew.proofs.HubLemmas.{wires_more}
use Rattle.mcs_crew.proofs.wires.wires_of.Goals as goal

pub loop-group-preserved : goal.loop-group-preserved
loop-group-preserved c =
    let m = arc_value c.args.plan.now in
    let k = c.loop-group.group in
    let ps = c.loop-group.addresses.items in
    let is = c.loop-group.inboxes.items in
    rw (c.in_ok-push.ensures.items, c.in_ok-push-2.ensures.items)
    (wires_more m c.args.groups k ps is c.in_ok-address.field-0.address c.in_ok-address.field-0.inbox c.loop-group.invariant c.in_ok-address.ensures)
