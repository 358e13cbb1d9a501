use Rattle.std.proofs.Common.{◌≡◌, ℕ, map}
use Rattle.mcs_crew.specs.Calls.{without_nodes}
use Rattle.mcs_crew.specs.Hubs.{CanComeBack, HaveComeBack}
use Rattle.mcs_crew.proofs.equipment.Hub.take_all_back.Given as goal

abbrev pub invariant-loop-load : goal.invariant-loop-load
invariant-loop-load g l = record {
  inboxes : l.inboxes.items ≡ map (λ x. x.inbox) l.yielded;
  back : (asked : ℕ) → CanComeBack asked l.draw.word l.fn.self.addresses.items l.fn.self.seat (map without_nodes l.fn.loads.items) → HaveComeBack asked l.fn.self.addresses.items (map without_nodes l.yielded) l.self.addresses.items l.self.seat;
  word : l.self.seat.word ≡ l.fn.self.seat.word;
}
