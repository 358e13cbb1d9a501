use Rattle.std.proofs.Common.{◌≡◌, ◌≤◌, ◌∙◌, List, ap, length, map, refl, sym, subst, arith}
use Rattle.std.proofs.lemmas.List.{length-map}
use Rattle.std.specs.List.{AllByRecursion}
use Rattle.mcs_base.proofs.Among.{get_among}
use Rattle.mcs_base.proofs.Each.{all_from_among}
use Rattle.mcs_base.proofs.Written.{written_back}
use Rattle.mcs_wire.specs.Ends.{AddressData, less_one, one_part}
use Rattle.mcs_crew.specs.Hubs.{AreSplitOff}
use Rattle.mcs_crew.proofs.HubLemmas.{is_new_load, split_off_one}
use Rattle.mcs_crew.proofs.equipment.load_for.Goals as goal

pub split_each-requires : goal.split_each-requires
split_each-requires g c =
    let ps : List AddressData = c.args.hub.now.addresses.items in
    subst (λ (xs : List AddressData). AllByRecursion (λ (a : AddressData). 2 ≤ a.parts) xs) (sym c.deref_mut.ensures.value)
    (all_from_among (λ (a : AddressData). 2 ≤ a.parts) ps (λ a among. (let (k, at) = get_among a ps among in (c.requires.parts k a at).0)))

pub returns-clause-load : goal.returns-clause-load
returns-clause-load g c =
    let seat = c.in_ok-seat.ensures.moved in
    is_new_load c.args.plan.now c.args.groups c.args.group c.args.draw.now.word c.args.hub.now.addresses.items c.in_ok-addresses.addresses.items c.args.hub.now.seat c.args.inbox _
    c.in_ok-nodes.ensures.items refl (c.in_ok-addresses.ensures.moved ∙ ap (map one_part) c.deref_mut.ensures.value) (seat.0 ∙ c.requires.word) seat.1 refl c.awaited.ensures

pub returns-clause-split : goal.returns-clause-split
returns-clause-split g c =
    let ps : List AddressData = c.args.hub.now.addresses.items in
    let after : List AddressData = c.split_each.new.addresses in
    let split : after ≡ map less_one ps = c.in_ok-addresses.ensures.kept ∙ ap (map less_one) c.deref_mut.ensures.value in
    let long : length after ≡ length ps = ap (λ (xs : List AddressData). length xs) split ∙ length-map ps less_one in
    let fits : c.args.hub.now.addresses.len ≡ length ps = (let k = c.args.hub.now.addresses.ok.0 in omega (arith, k)) in
    let seat = c.in_ok-seat.ensures.kept in
    subst (λ (bs : List AddressData). AreSplitOff 1 ps c.args.hub.now.seat bs c.split.new.seat) (sym (written_back ps after c.args.hub.now.addresses.len long fits))
    (split_off_one ps after c.args.hub.now.seat c.split.new.seat split seat.0 seat.1 c.requires.room c.requires.parts)
