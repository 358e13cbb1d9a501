use Rattle.std.proofs.Common.{◌≡◌, ◌++◌, map, take, drop}
use Rattle.mcs_wire.specs.Ends.{less_one, one_part}
use Rattle.mcs_crew.proofs.wires.split_each.Given as goal

abbrev pub invariant-loop-address : goal.invariant-loop-address
invariant-loop-address l = record {
  kept : l.addresses ≡ map less_one (take l.address-index l.initial.addresses) ++ drop l.address-index l.initial.addresses;
  moved : l.new.items ≡ map one_part (take l.address-index l.initial.addresses);
}
