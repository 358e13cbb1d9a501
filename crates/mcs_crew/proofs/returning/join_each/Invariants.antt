use Rattle.std.proofs.Common.{◌≡◌, length}
use Rattle.mcs_crew.specs.Hubs.{joined_each}
use Rattle.mcs_crew.proofs.returning.join_each.Given as goal

abbrev pub invariant-loop-other : goal.invariant-loop-other
invariant-loop-other l = record {
  group_is : l.group ≡ length l.yielded;
  joined : l.addresses ≡ joined_each l.initial.addresses l.yielded;
}
