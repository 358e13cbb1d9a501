use Rattle.mcs_import.proofs.OrderLemmas.{order_all, order_length}
use Rattle.mcs_import.proofs.plan.Plan.order.Goals as goal

pub returns : goal.returns
returns c = rw (c.deref.ensures.value, ← c.self.view_is) (record {
  order = c.self.invariant.in_order;
  one_each = order_length _ c.self.inside.order.items c.self.invariant.in_order;
  in_range = order_all _ c.self.inside.order.items c.self.invariant.in_order;
})
