use Rattle.std.proofs.Common.{◌+◌, ◌<◌, ◌^◌, ◌∙◌, ◌⊎◌, List, length, slice_set, refl, sym, subst, ap, rules}
use Rattle.std.proofs.lemmas.List.{with_items_is}
use Rattle.std.specs.Vec.{with_items}
use Rattle.mcs_node.specs.Nodes.{NodeData}
use Rattle.mcs_node.specs.Rounds.{Round}
use Rattle.mcs_wire.specs.Ends.{AddressData}
use Rattle.mcs_crew.specs.Calls.{team_of}
use Rattle.mcs_crew.specs.Teams.{AreNamed, GoesOn, HasHadNone, HasHadOne, HaveSent, TeamData}
use Rattle.mcs_crew.specs.Weights.{sent_weight}
use Rattle.mcs_crew.proofs.TeamSteps.{few_to_send, handed_goes_on, handed_had, handed_team, is_handed, named_to_send, stands_at, team_made}
use Rattle.mcs_crew.proofs.load.Team.hand_over.Goals as goal

pub receive-requires : goal.receive-requires
receive-requires g c =
    let t = c.args.self.now in
    let d : NodeData = c.index_mut-node.result.now in
    let less : c.args.place < length t.nodes.items = search rules in
    let at = stands_at t.nodes.items c.args.place d d less c.index_mut-node.ensures.value in
    let (r, asked, team, of_plan) = c.requires.team in
    record { same = of_plan ∙ sym (ap (λ (x : Round). x.system) (team.nodes c.args.place d at).round_is) }

pub send_out-requires-clause-few : goal.send_out-requires-clause-few
send_out-requires-clause-few g c =
    let t = c.args.self.now in
    let d : NodeData = c.index_mut-node.result.now in
    let e : NodeData = c.receive.new.self in
    let less : c.args.place < length t.nodes.items = search rules in
    let at = stands_at t.nodes.items c.args.place d d less c.index_mut-node.ensures.value in
    let handed = is_handed c.args.letter d e c.receive.result c.receive.ensures.took c.receive.ensures.nothing c.receive.ensures.taken in
    let (r, asked, team, of_plan) = c.requires.team in
    let came = (handed_team c.args.letter (team_of t) c.args.place d e at r asked handed team).0 in
    subst (λ (ps : List AddressData). sent_weight (λ _. 1) ps + length e.outbox < 2 ^ 62) (sym c.deref_mut.ensures.value) (few_to_send r asked (team_of t) team d e came)

pub send_out-requires-clause-named : goal.send_out-requires-clause-named
send_out-requires-clause-named g c =
    let t = c.args.self.now in
    let d : NodeData = c.index_mut-node.result.now in
    let e : NodeData = c.receive.new.self in
    let less : c.args.place < length t.nodes.items = search rules in
    let at = stands_at t.nodes.items c.args.place d d less c.index_mut-node.ensures.value in
    let handed = is_handed c.args.letter d e c.receive.result c.receive.ensures.took c.receive.ensures.nothing c.receive.ensures.taken in
    let (r, asked, team, of_plan) = c.requires.team in
    let came = (handed_team c.args.letter (team_of t) c.args.place d e at r asked handed team).0 in
    subst (λ (ps : List AddressData). AreNamed e.outbox ps) (sym c.deref_mut.ensures.value) (named_to_send r asked (team_of t) team d e came)

pub returns-clause-goes_on : goal.returns-clause-goes_on
returns-clause-goes_on g c =
    let t = c.args.self.now in
    let d : NodeData = c.index_mut-node.result.now in
    let e : NodeData = c.receive.new.self in
    let less : c.args.place < length t.nodes.items = search rules in
    let at = stands_at t.nodes.items c.args.place d d less c.index_mut-node.ensures.value in
    let handed = is_handed c.args.letter d e c.receive.result c.receive.ensures.took c.receive.ensures.nothing c.receive.ensures.taken in
    let (r, asked, team, of_plan) = c.requires.team in
    let sent : HaveSent e.outbox t.addresses.items c.send_out.new.addresses = subst (λ (ps : List AddressData). HaveSent e.outbox ps c.send_out.new.addresses) c.deref_mut.ensures.value c.send_out.ensures.sent in
    let u : TeamData = record { nodes = slice_set t.nodes.items c.args.place c.send_out.new.node; addresses = (with_items t.addresses c.send_out.new.addresses).items; seat = t.seat } in
    let kept = with_items_is t.addresses c.send_out.new.addresses (c.send_out.auto.addresses ∙ c.deref_mut.ensures.len) in
    subst (λ (v : TeamData). GoesOn (team_of t) v) (team_made (team_of t) u c.args.place c.send_out.new.node e c.send_out.new.addresses refl c.send_out.ensures.out kept refl)
    (handed_goes_on c.args.letter (team_of t) c.args.place d e at c.send_out.new.addresses sent r asked team handed)

pub returns-clause-had : goal.returns-clause-had
returns-clause-had g c =
    let t = c.args.self.now in
    let d : NodeData = c.index_mut-node.result.now in
    let e : NodeData = c.receive.new.self in
    let less : c.args.place < length t.nodes.items = search rules in
    let at = stands_at t.nodes.items c.args.place d d less c.index_mut-node.ensures.value in
    let handed = is_handed c.args.letter d e c.receive.result c.receive.ensures.took c.receive.ensures.nothing c.receive.ensures.taken in
    let (r, asked, team, of_plan) = c.requires.team in
    let sent : HaveSent e.outbox t.addresses.items c.send_out.new.addresses = subst (λ (ps : List AddressData). HaveSent e.outbox ps c.send_out.new.addresses) c.deref_mut.ensures.value c.send_out.ensures.sent in
    let u : TeamData = record { nodes = slice_set t.nodes.items c.args.place c.send_out.new.node; addresses = (with_items t.addresses c.send_out.new.addresses).items; seat = t.seat } in
    let kept = with_items_is t.addresses c.send_out.new.addresses (c.send_out.auto.addresses ∙ c.deref_mut.ensures.len) in
    subst (λ (v : TeamData). HasHadOne c.args.letter (team_of t) v ⊎ HasHadNone (team_of t) v) (team_made (team_of t) u c.args.place c.send_out.new.node e c.send_out.new.addresses refl c.send_out.ensures.out kept refl)
    (handed_had c.args.letter (team_of t) c.args.place d e at c.send_out.new.addresses sent r asked team handed)
