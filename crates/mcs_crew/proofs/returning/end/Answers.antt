use Rattle.std.proofs.Common.{◌∙◌, map, sym}
use Rattle.std.proofs.lemmas.Simd.{map-map}
use Rattle.mcs_crew.specs.Calls.{without_nodes}
use Rattle.mcs_crew.specs.Loads.{LoadData}
use Rattle.mcs_crew.proofs.HubLemmas.{have_ended, many_inboxes, whole_seat, whole_wires}
use Rattle.mcs_crew.proofs.returning.end.Goals as goal

pub close-word-requires-clause-whole : goal.close-word-requires-clause-whole
close-word-requires-clause-whole g c =
    let hub = c.take_all_back.new.self in
    let (asked, can) = c.requires in
    whole_seat asked c.args.draw c.args.hub.addresses.items c.args.hub.seat (map without_nodes c.args.loads.items) can hub.addresses.items hub.seat (c.in_ok-inboxes.ensures.back asked can.back)

pub settle_all-requires-clause-each : goal.settle_all-requires-clause-each
settle_all-requires-clause-each g c =
    let hub = c.take_all_back.new.self in
    let (asked, can) = c.requires in
    whole_wires asked c.args.draw c.args.hub.addresses.items c.args.hub.seat (map without_nodes c.args.loads.items) can hub.addresses.items hub.seat (c.in_ok-inboxes.ensures.back asked can.back) c.in_ok-inboxes.inboxes.items
    (c.in_ok-inboxes.ensures.inboxes ∙ sym (map-map (λ (l : LoadData). l.inbox) without_nodes c.args.loads.items))

pub settle_all-requires-clause-many : goal.settle_all-requires-clause-many
settle_all-requires-clause-many g c =
    let hub = c.take_all_back.new.self in
    let (asked, can) = c.requires in
    many_inboxes asked c.args.draw c.args.hub.addresses.items c.args.hub.seat (map without_nodes c.args.loads.items) can hub.addresses.items hub.seat (c.in_ok-inboxes.ensures.back asked can.back) c.in_ok-inboxes.inboxes.items
    (c.in_ok-inboxes.ensures.inboxes ∙ sym (map-map (λ (l : LoadData). l.inbox) without_nodes c.args.loads.items))

pub returns : goal.returns
returns g c asked can =
    let hub = c.take_all_back.new.self in
    let closed = c.close-word.ensures in
    have_ended asked c.args.draw c.args.hub.addresses.items c.args.hub.seat (map without_nodes c.args.loads.items) can hub.addresses.items hub.seat (c.in_ok-inboxes.ensures.back asked can.back)
    c.in_ok-inboxes.inboxes.items c.in_ok-wires.wires.items c.close-word.result
    (c.in_ok-inboxes.ensures.inboxes ∙ sym (map-map (λ (l : LoadData). l.inbox) without_nodes c.args.loads.items)) c.in_ok-wires.ensures closed.total closed.draws closed.top
