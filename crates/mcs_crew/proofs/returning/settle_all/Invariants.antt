use Rattle.std.proofs.Common.{◌≡◌, drop, length}
use Rattle.mcs_crew.specs.Hubs.{AreSettled}
use Rattle.mcs_crew.proofs.returning.settle_all.Given as goal

abbrev pub invariant-loop-address : goal.invariant-loop-address
invariant-loop-address g l = record {
  left : l.inboxes.items ≡ drop (length l.yielded) l.fn.inboxes.items;
  settled : AreSettled l.yielded l.fn.inboxes.items l.wires.items;
}
