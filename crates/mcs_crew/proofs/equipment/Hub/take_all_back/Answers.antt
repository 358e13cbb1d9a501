use Rattle.std.proofs.Common.{◌∙◌, List, length, map, refl, sym, subst}
use Rattle.std.proofs.lemmas.Iterator.Adapters.{YieldsList-from_vec}
use Rattle.std.proofs.lemmas.Iterator.Consumers.{YieldsList-turn, YieldsList-end}
use Rattle.std.proofs.lemmas.List.{map-id, map_push}
use Rattle.std.proofs.lemmas.Option.{slice_get_read}
use Rattle.mcs_crew.specs.Calls.{without_nodes}
use Rattle.mcs_crew.specs.Hubs.{HaveComeBack}
use Rattle.mcs_crew.specs.declared.load.Load.{Load}
use Rattle.mcs_crew.proofs.HubLemmas.{come_back_more, joinable, next_word}
use Rattle.mcs_crew.proofs.equipment.Hub.take_all_back.Goals as goal
use Rattle.mcs_base.proofs.Mapped.{next_image}

pub take_back-requires-clause-addresses : goal.take_back-requires-clause-addresses
take_back-requires-clause-addresses g c =
    let all = c.args.loads.items in
    let yielded = c.loop-load.yielded in
    let gives = c.into_iter-load-iterator.ensures.into_iter_gives in
    let road = YieldsList-from_vec {s = c.into_iter-load-iterator.result} all gives.0 (gives.1 ∙ c.args.loads.ok.0) in
    let turn = YieldsList-turn road yielded c.loop-load.load-iterator c.loop-load.yielded_by c.next.result c.next.new.self c.in-Some.load c.in-Some.is c.next.ensures.steps in
    let next = next_image without_nodes all yielded c.in-Some.load (slice_get_read all (length all) (length yielded) c.in-Some.load refl turn.0 turn.1) in
    let (asked, can) = c.requires in
    joinable asked c.args.draw.now.word c.args.self.now.addresses.items c.loop-load.self.addresses.items c.args.self.now.seat c.loop-load.self.seat (map without_nodes all) (map without_nodes yielded) (without_nodes c.in-Some.load) can next (c.loop-load.invariant.back asked can)

pub take_back-requires-clause-word : goal.take_back-requires-clause-word
take_back-requires-clause-word g c =
    let all = c.args.loads.items in
    let yielded = c.loop-load.yielded in
    let gives = c.into_iter-load-iterator.ensures.into_iter_gives in
    let road = YieldsList-from_vec {s = c.into_iter-load-iterator.result} all gives.0 (gives.1 ∙ c.args.loads.ok.0) in
    let turn = YieldsList-turn road yielded c.loop-load.load-iterator c.loop-load.yielded_by c.next.result c.next.new.self c.in-Some.load c.in-Some.is c.next.ensures.steps in
    let next = next_image without_nodes all yielded c.in-Some.load (slice_get_read all (length all) (length yielded) c.in-Some.load refl turn.0 turn.1) in
    let (asked, can) = c.requires in (
      c.loop-load.invariant.word ∙ can.word_is,
      next_word asked c.args.draw.now.word c.args.self.now.addresses.items c.loop-load.self.addresses.items c.args.self.now.seat c.loop-load.self.seat (map without_nodes all) (map without_nodes yielded) (without_nodes c.in-Some.load) can next (c.loop-load.invariant.back asked can),
    )

pub loop-load-preserved : goal.loop-load-preserved
loop-load-preserved g c =
    let all = c.args.loads.items in
    let yielded = c.loop-load.yielded in
    let load = c.in-Some.load in
    let gives = c.into_iter-load-iterator.ensures.into_iter_gives in
    let road = YieldsList-from_vec {s = c.into_iter-load-iterator.result} all gives.0 (gives.1 ∙ c.args.loads.ok.0) in
    let turn = YieldsList-turn road yielded c.loop-load.load-iterator c.loop-load.yielded_by c.next.result c.next.new.self load c.in-Some.is c.next.ensures.steps in
    let next = next_image without_nodes all yielded load (slice_get_read all (length all) (length yielded) load refl turn.0 turn.1) in record {
      inboxes = rw (c.in_ok-push.ensures.items, c.loop-load.invariant.inboxes, c.take_back.ensures.inbox, map_push (λ (l : Load g.row.O.Denot). l.inbox) yielded load);
      back = λ asked can. rw (map_push without_nodes yielded load, c.take_back.ensures.addresses)
          (come_back_more asked c.args.draw.now.word c.args.self.now.addresses.items c.loop-load.self.addresses.items c.args.self.now.seat c.loop-load.self.seat (map without_nodes all) (map without_nodes yielded) (without_nodes load) can next
          (c.loop-load.invariant.back asked can) c.take_back.new.self.seat c.take_back.ensures.seat);
      word = c.take_back.ensures.word ∙ c.loop-load.invariant.word;
    }

pub returns-clause-back : goal.returns-clause-back
returns-clause-back g c asked can =
    let all = c.args.loads.items in
    let gives = c.into_iter-load-iterator.ensures.into_iter_gives in
    let road = YieldsList-from_vec {s = c.into_iter-load-iterator.result} all gives.0 (gives.1 ∙ c.args.loads.ok.0) in
    let end = YieldsList-end road c.loop-load.yielded c.loop-load.load-iterator c.loop-load.yielded_by c.next.result c.next.new.self c.in-None.is c.next.ensures.steps in
    subst (λ (ls : List (Load g.row.O.Denot)). HaveComeBack asked c.args.self.now.addresses.items (map without_nodes ls) c.loop-load.self.addresses.items c.loop-load.self.seat) (sym (map-id c.loop-load.yielded) ∙ end.0)
    (c.loop-load.invariant.back asked can)
