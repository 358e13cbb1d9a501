use Rattle.std.proofs.Common.{◌≡◌, get_or, slice_get, Some, arith}
use Rattle.std.proofs.lemmas.Option.{slice_get-get_or}
use Rattle.mcs_wire.specs.Ends.{AddressData, less_one}
use Rattle.mcs_base.proofs.Mapped.{mapped_in_place}
use Rattle.mcs_crew.proofs.HubLemmas.{new_more}
use Rattle.mcs_crew.proofs.wires.split_each.Goals as goal

pub loop-address-preserved : goal.loop-address-preserved
loop-address-preserved c =
    let first = c.args.addresses.now in
    let now = c.loop-address.addresses in
    let k = c.loop-address.address-index in
    let a : AddressData = get_or now k c.address-item.result in
    let at : slice_get now k ≡ Some a = slice_get-get_or now k c.address-item.result (let t = c.loop-address-test.true in let l = c.loop-address.auto.addresses in omega (arith, t, l)) in
    let split = mapped_in_place less_one first now k a c.split.new.self c.loop-address.invariant.kept at c.in_ok-split.ensures.kept in record {
      kept = split.0;
      moved = new_more first c.loop-address.new.items c.push.new.self.items k a c.in_ok-split.field-0 split.1 c.loop-address.invariant.moved c.in_ok-split.ensures.moved c.in_ok-push.ensures.items;
    }
