use Rattle.std.proofs.Common.{◌≡◌, ◌<◌, ◌≤◌, ◌∙◌, ℕ, List, [], ◌∷◌, ap, length, length-append, map, vec_capacity, refl, arith}
use Rattle.std.proofs.lemmas.Iterator.Adapters.{YieldsList-from_vec}
use Rattle.std.proofs.lemmas.Iterator.Consumers.{YieldsList-turn}
use Rattle.std.proofs.lemmas.List.{map_push}
use Rattle.std.proofs.lemmas.Option.{slice_get_read}
use Rattle.mcs_base.proofs.Each.{all_push}
use Rattle.mcs_crew.specs.Calls.{load_of}
use Rattle.mcs_crew.specs.declared.load.Load.{Load}
use Rattle.mcs_crew.proofs.HubLemmas.{loads_next, loads_none, none_sent, parts_left, split_off_again, split_off_none}
use Rattle.mcs_crew.proofs.equipment.loads_of.Goals as goal

pub loop-inbox-init : goal.loop-inbox-init
loop-inbox-init g c =
    let none = c.new-loads.ensures.items in
    let hub = c.args.hub.now in record {
      many = ap (λ (ls : List (Load g.row.O.Denot)). length ls) none;
      loads = rw none
          (loads_none c.args.plan.now c.args.groups hub.seat.account.top c.args.draw.now.word hub.addresses.items c.args.inboxes.items);
      room = rw none tt;
      hub = split_off_none hub.addresses.items hub.seat (none_sent c.args.plan.now c.args.groups hub.addresses.items c.args.inboxes.items c.requires.wires);
    }

pub load_for-requires-clause-parts : goal.load_for-requires-clause-parts
load_for-requires-clause-parts g c =
    let all = c.args.inboxes.items in
    let gives = c.into_iter-inbox-iterator.ensures.into_iter_gives in
    let road = YieldsList-from_vec {s = c.into_iter-inbox-iterator.result} all gives.0 (gives.1 ∙ c.args.inboxes.ok.0) in
    let turn = YieldsList-turn road c.loop-inbox.yielded c.loop-inbox.inbox-iterator c.loop-inbox.yielded_by c.next.result c.next.new.self c.in-Some.inbox c.in-Some.is c.next.ensures.steps in
    let less : length c.loop-inbox.yielded < c.args.groups = (let within = turn.0 in let long = c.requires.wires.inboxes_are in omega (arith, within, long)) in
    parts_left c.args.plan.now c.args.groups c.args.hub.now.addresses.items all c.requires.wires (length c.loop-inbox.yielded) less c.args.hub.now.seat c.loop-inbox.hub.seat c.loop-inbox.hub.addresses.items c.loop-inbox.invariant.hub

pub loop-inbox-preserved : goal.loop-inbox-preserved
loop-inbox-preserved g c =
    let m = c.args.plan.now in
    let groups = c.args.groups in
    let word = c.args.draw.now.word in
    let hub = c.args.hub.now in
    let all = c.args.inboxes.items in
    let k : ℕ = length c.loop-inbox.yielded in
    let gives = c.into_iter-inbox-iterator.ensures.into_iter_gives in
    let road = YieldsList-from_vec {s = c.into_iter-inbox-iterator.result} all gives.0 (gives.1 ∙ c.args.inboxes.ok.0) in
    let turn = YieldsList-turn road c.loop-inbox.yielded c.loop-inbox.inbox-iterator c.loop-inbox.yielded_by c.next.result c.next.new.self c.in-Some.inbox c.in-Some.is c.next.ensures.steps in
    let next = slice_get_read all (length all) k c.in-Some.inbox refl turn.0 turn.1 in
    let load : Load g.row.O.Denot = c.in_ok-load_for.field-0 in
    let old = c.loop-inbox.invariant in
    let pushed = c.in_ok-push.ensures.items in
    let place : c.len-group.result ≡ k = c.len-group.ensures ∙ c.loop-inbox.loads.ok.0 ∙ old.many in record {
      many = (let many = old.many in rw (pushed, length-append c.loop-inbox.loads.items (load ∷ []), length-append c.loop-inbox.yielded (c.in-Some.inbox ∷ [])) (omega (arith, many)));
      loads = rw (length-append c.loop-inbox.yielded (c.in-Some.inbox ∷ []), pushed, map_push load_of c.loop-inbox.loads.items load)
          (loads_next m groups k c.len-group.result word hub.addresses.items c.loop-inbox.hub.addresses.items all hub.seat c.loop-inbox.hub.seat (map load_of c.loop-inbox.loads.items) (load_of load) c.in-Some.inbox old.loads old.hub next place c.in_ok-load_for.ensures.load);
      room = rw pushed (all_push (λ (l : Load g.row.O.Denot). length m.contexts ≤ vec_capacity l.team.nodes) c.loop-inbox.loads.items load old.room c.in_ok-load_for.ensures.nodes);
      hub = rw (length-append c.loop-inbox.yielded (c.in-Some.inbox ∷ []))
          (split_off_again c.loop-inbox.hub.addresses.items c.load_for.new.hub.addresses.items c.loop-inbox.hub.seat c.load_for.new.hub.seat k hub.addresses.items hub.seat old.hub c.in_ok-load_for.ensures.split);
    }
