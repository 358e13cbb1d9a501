use Rattle.std.proofs.Common.{◌≡◌, ◌≤◌, length, map, vec_capacity}
use Rattle.std.specs.List.{AllByRecursion}
use Rattle.mcs_crew.specs.Calls.{load_of}
use Rattle.mcs_crew.specs.Hubs.{AreNewLoads, AreSplitOff}
use Rattle.mcs_crew.proofs.equipment.loads_of.Given as goal

abbrev pub invariant-loop-inbox : goal.invariant-loop-inbox
invariant-loop-inbox g l = record {
  many : length l.loads.items ≡ length l.yielded;
  loads : AreNewLoads l.plan l.groups (length l.yielded) l.fn.hub.seat.account.top l.draw.word l.fn.hub.addresses.items l.fn.inboxes.items (map load_of l.loads.items);
  room : AllByRecursion (λ load. length l.plan.contexts ≤ vec_capacity load.team.nodes) l.loads.items;
  hub : AreSplitOff (length l.yielded) l.fn.hub.addresses.items l.fn.hub.seat l.hub.addresses.items l.hub.seat;
}
