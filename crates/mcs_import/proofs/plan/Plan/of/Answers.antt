use Rattle.std.proofs.Common.{◌∙◌, ◌<◌, ℕ, length, sym, subst}
use Rattle.mcs_system.specs.Imports.{IsImportOrder}
use Rattle.std.specs.List.{All}
use Rattle.mcs_system.specs.Plain.{System}
use Rattle.mcs_import.proofs.OrderLemmas.{order_all}
use Rattle.mcs_import.proofs.plan.Plan.of.Goals as goal

pub shares-requires : goal.shares-requires
shares-requires c =
    let order = subst (λ (m : System). IsImportOrder m c.in_ok-order.order.items) (c.deref.ensures ∙ sym c.deref-2.ensures) c.in_ok-order.ensures in
    subst (All (λ (j : ℕ). j < length c.deref-2.result.now.contexts)) (sym c.deref-3.ensures.value) (order_all c.deref-2.result.now c.in_ok-order.order.items order)
