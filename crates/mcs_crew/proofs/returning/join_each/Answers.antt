use Rattle.std.proofs.Common.{◌≡◌, ◌∙◌, [], ◌∷◌, ap, length, length-append, get_or, slice_get, slice_set, Some, refl, sym, arith}
use Rattle.std.proofs.lemmas.Iterator.Adapters.{YieldsList-from_vec}
use Rattle.std.proofs.lemmas.Iterator.Consumers.{YieldsList-turn}
use Rattle.std.proofs.lemmas.Option.{slice_get_read, slice_get-get_or}
use Rattle.mcs_wire.specs.Ends.{AddressData}
use Rattle.mcs_crew.specs.Hubs.{joined_each}
use Rattle.mcs_crew.proofs.HubLemmas.{join_fits, join_set, join_wire, join_within, joined_none, joining_at, joining_set}
use Rattle.mcs_crew.proofs.returning.join_each.Goals as goal

pub loop-other-init : goal.loop-other-init
loop-other-init c = record { group_is = refl; joined = sym (joined_none c.args.addresses.now) }

pub join-requires-clause-wire : goal.join-requires-clause-wire
join-requires-clause-wire c =
    let all = c.args.others.items in
    let ps = c.args.addresses.now in
    let bs = c.loop-other.yielded in
    let gives = c.into_iter-other-iterator.ensures.into_iter_gives in
    let road = YieldsList-from_vec {s = c.into_iter-other-iterator.result} all gives.0 (gives.1 ∙ c.args.others.ok.0) in
    let turn = YieldsList-turn road bs c.loop-other.other-iterator c.loop-other.yielded_by c.next.result c.next.new.self c.in-Some.other c.in-Some.is c.next.ensures.steps in
    let next = slice_get_read all (length all) (length bs) c.in-Some.other refl turn.0 turn.1 in
    let d : AddressData = get_or c.loop-other.addresses c.loop-other.group c.index-addresses-group.result in
    let at : slice_get c.loop-other.addresses c.loop-other.group ≡ Some d = slice_get-get_or c.loop-other.addresses c.loop-other.group c.index-addresses-group.result
    (let within = join_within ps bs all c.in-Some.other d c.requires next in let long = c.loop-other.auto.addresses in let place = c.loop-other.invariant.group_is in omega (arith, within, long, place)) in
    join_wire ps bs all c.in-Some.other d c.requires next (joining_at ps bs c.loop-other.addresses c.loop-other.group d c.loop-other.invariant.joined c.loop-other.invariant.group_is at)

pub join-requires-clause-sent : goal.join-requires-clause-sent
join-requires-clause-sent c =
    let all = c.args.others.items in
    let ps = c.args.addresses.now in
    let bs = c.loop-other.yielded in
    let gives = c.into_iter-other-iterator.ensures.into_iter_gives in
    let road = YieldsList-from_vec {s = c.into_iter-other-iterator.result} all gives.0 (gives.1 ∙ c.args.others.ok.0) in
    let turn = YieldsList-turn road bs c.loop-other.other-iterator c.loop-other.yielded_by c.next.result c.next.new.self c.in-Some.other c.in-Some.is c.next.ensures.steps in
    let next = slice_get_read all (length all) (length bs) c.in-Some.other refl turn.0 turn.1 in
    let d : AddressData = get_or c.loop-other.addresses c.loop-other.group c.index-addresses-group.result in
    let at : slice_get c.loop-other.addresses c.loop-other.group ≡ Some d = slice_get-get_or c.loop-other.addresses c.loop-other.group c.index-addresses-group.result
    (let within = join_within ps bs all c.in-Some.other d c.requires next in let long = c.loop-other.auto.addresses in let place = c.loop-other.invariant.group_is in omega (arith, within, long, place)) in
    join_fits ps bs all c.in-Some.other d c.requires next (joining_at ps bs c.loop-other.addresses c.loop-other.group d c.loop-other.invariant.joined c.loop-other.invariant.group_is at)

pub loop-other-preserved : goal.loop-other-preserved
loop-other-preserved c =
    let all = c.args.others.items in
    let ps = c.args.addresses.now in
    let bs = c.loop-other.yielded in
    let gives = c.into_iter-other-iterator.ensures.into_iter_gives in
    let road = YieldsList-from_vec {s = c.into_iter-other-iterator.result} all gives.0 (gives.1 ∙ c.args.others.ok.0) in
    let turn = YieldsList-turn road bs c.loop-other.other-iterator c.loop-other.yielded_by c.next.result c.next.new.self c.in-Some.other c.in-Some.is c.next.ensures.steps in
    let next = slice_get_read all (length all) (length bs) c.in-Some.other refl turn.0 turn.1 in
    let d : AddressData = get_or c.loop-other.addresses c.loop-other.group c.index-addresses-group.result in
    let at : slice_get c.loop-other.addresses c.loop-other.group ≡ Some d = slice_get-get_or c.loop-other.addresses c.loop-other.group c.index-addresses-group.result
    (let within = join_within ps bs all c.in-Some.other d c.requires next in let long = c.loop-other.auto.addresses in let place = c.loop-other.invariant.group_is in omega (arith, within, long, place)) in
    let there = joining_at ps bs c.loop-other.addresses c.loop-other.group d c.loop-other.invariant.joined c.loop-other.invariant.group_is at in record {
      group_is = (let place = c.loop-other.invariant.group_is in omega (arith, place, length-append bs (c.in-Some.other ∷ [])));
      joined = joining_set ps bs c.loop-other.addresses c.loop-other.group c.join.new.self c.loop-other.invariant.joined c.loop-other.invariant.group_is
          ∙ ap (λ (z : AddressData). slice_set (joined_each ps bs) (length bs) z) c.join.ensures
          ∙ join_set ps bs all c.in-Some.other d c.requires next there;
    }
