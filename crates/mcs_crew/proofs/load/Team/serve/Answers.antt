use Rattle.std.proofs.Common.{◌+◌, ◌<◌, ◌^◌, ◌∙◌, List, length, slice_set, refl, sym, subst, rules}
use Rattle.std.proofs.lemmas.List.{with_items_is}
use Rattle.std.specs.Vec.{with_items}
use Rattle.mcs_node.specs.Nodes.{NodeData}
use Rattle.mcs_wire.specs.Ends.{AddressData}
use Rattle.mcs_crew.specs.Calls.{team_of}
use Rattle.mcs_crew.specs.Teams.{AreNamed, GoesOn, HasHadNone, HaveSent, TeamData}
use Rattle.mcs_crew.specs.Weights.{sent_weight}
use Rattle.mcs_crew.proofs.TeamSteps.{few_to_send, named_to_send, need_fits, served_goes_on, served_had, served_team, stands_at, team_made}
use Rattle.mcs_crew.proofs.load.Team.serve.Goals as goal

pub grant_need-requires-clause-room : goal.grant_need-requires-clause-room
grant_need-requires-clause-room g c need is_need =
    let t = c.args.self.now in
    let d : NodeData = c.index_mut-node.result.now in
    let less : c.args.place < length t.nodes.items = search rules in
    let (r, asked, team) = c.requires.team in
    need_fits r asked (team_of t) team c.args.place d (stands_at t.nodes.items c.args.place d d less c.index_mut-node.ensures.value) need is_need

pub send_out-requires-clause-few : goal.send_out-requires-clause-few
send_out-requires-clause-few g c =
    let t = c.args.self.now in
    let d : NodeData = c.index_mut-node.result.now in
    let e : NodeData = c.grant_need.new.node in
    let less : c.args.place < length t.nodes.items = search rules in
    let at = stands_at t.nodes.items c.args.place d d less c.index_mut-node.ensures.value in
    let (r, asked, team) = c.requires.team in
    let came = (served_team (team_of t) c.args.place d e at c.grant_need.new.seat.account r asked c.grant_need.ensures.served team).0 in
    subst (λ (ps : List AddressData). sent_weight (λ _. 1) ps + length e.outbox < 2 ^ 62) (sym c.deref_mut.ensures.value) (few_to_send r asked (team_of t) team d e came)

pub send_out-requires-clause-named : goal.send_out-requires-clause-named
send_out-requires-clause-named g c =
    let t = c.args.self.now in
    let d : NodeData = c.index_mut-node.result.now in
    let e : NodeData = c.grant_need.new.node in
    let less : c.args.place < length t.nodes.items = search rules in
    let at = stands_at t.nodes.items c.args.place d d less c.index_mut-node.ensures.value in
    let (r, asked, team) = c.requires.team in
    let came = (served_team (team_of t) c.args.place d e at c.grant_need.new.seat.account r asked c.grant_need.ensures.served team).0 in
    subst (λ (ps : List AddressData). AreNamed e.outbox ps) (sym c.deref_mut.ensures.value) (named_to_send r asked (team_of t) team d e came)

pub returns-clause-goes_on : goal.returns-clause-goes_on
returns-clause-goes_on g c =
    let t = c.args.self.now in
    let d : NodeData = c.index_mut-node.result.now in
    let e : NodeData = c.grant_need.new.node in
    let less : c.args.place < length t.nodes.items = search rules in
    let at = stands_at t.nodes.items c.args.place d d less c.index_mut-node.ensures.value in
    let (r, asked, team) = c.requires.team in
    let sent : HaveSent e.outbox t.addresses.items c.send_out.new.addresses = subst (λ (ps : List AddressData). HaveSent e.outbox ps c.send_out.new.addresses) c.deref_mut.ensures.value c.send_out.ensures.sent in
    let u : TeamData = record { nodes = slice_set t.nodes.items c.args.place c.send_out.new.node; addresses = (with_items t.addresses c.send_out.new.addresses).items; seat = c.grant_need.new.seat } in
    let kept = with_items_is t.addresses c.send_out.new.addresses (c.send_out.auto.addresses ∙ c.deref_mut.ensures.len) in
    subst (λ (v : TeamData). GoesOn (team_of t) v) (team_made (team_of t) u c.args.place c.send_out.new.node e c.send_out.new.addresses refl c.send_out.ensures.out kept c.grant_need.ensures.word)
    (served_goes_on (team_of t) c.args.place d e at c.grant_need.new.seat.account c.send_out.new.addresses sent r asked team c.grant_need.ensures.served)

pub returns-clause-had : goal.returns-clause-had
returns-clause-had g c =
    let t = c.args.self.now in
    let d : NodeData = c.index_mut-node.result.now in
    let e : NodeData = c.grant_need.new.node in
    let less : c.args.place < length t.nodes.items = search rules in
    let at = stands_at t.nodes.items c.args.place d d less c.index_mut-node.ensures.value in
    let (r, asked, team) = c.requires.team in
    let sent : HaveSent e.outbox t.addresses.items c.send_out.new.addresses = subst (λ (ps : List AddressData). HaveSent e.outbox ps c.send_out.new.addresses) c.deref_mut.ensures.value c.send_out.ensures.sent in
    let u : TeamData = record { nodes = slice_set t.nodes.items c.args.place c.send_out.new.node; addresses = (with_items t.addresses c.send_out.new.addresses).items; seat = c.grant_need.new.seat } in
    let kept = with_items_is t.addresses c.send_out.new.addresses (c.send_out.auto.addresses ∙ c.deref_mut.ensures.len) in
    subst (λ (v : TeamData). HasHadNone (team_of t) v) (team_made (team_of t) u c.args.place c.send_out.new.node e c.send_out.new.addresses refl c.send_out.ensures.out kept c.grant_need.ensures.word)
    (served_had (team_of t) c.args.place d e at c.grant_need.new.seat.account c.send_out.new.addresses sent r asked team c.grant_need.ensures.served)
