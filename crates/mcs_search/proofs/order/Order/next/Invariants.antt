use Rattle.std.proofs.Common.{length}
use Rattle.mcs_search.proofs.order.Order.next.Given as goal

abbrev pub decreases-loop-variable : goal.decreases-loop-variable
decreases-loop-variable l = length l.self.heap.items
