use Rattle.std.proofs.Common.{◌≡◌, ◌-◌, length}
use Rattle.mcs_search.proofs.order.Order.sink.Given as goal

abbrev pub invariant-loop-at : goal.invariant-loop-at
invariant-loop-at l = length l.self.heap.items ≡ length l.initial.self.heap.items

abbrev pub decreases-loop-at : goal.decreases-loop-at
decreases-loop-at l = length l.self.heap.items - l.at
