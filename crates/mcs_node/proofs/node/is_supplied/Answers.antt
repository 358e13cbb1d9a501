use Rattle.std.proofs.Common.{refl, subst, true≢false, sym}
use Rattle.mcs_base.specs.Listings.{IsAmong}
use Rattle.mcs_base.proofs.Among.{among_get}
use Rattle.mcs_import.proofs.OrderLemmas.{import_order_exists}
use Rattle.mcs_node.proofs.HandlingLemmas.{in_order}
use Rattle.mcs_node.proofs.node.is_supplied.Goals as goal

pub returns-in-Some : goal.returns-in-Some
returns-in-Some c = (
  λ _. let (order, ordered) = import_order_exists c.args.plan.now in
      (order, ordered, c.requires, subst (λ xs. IsAmong c.args.context xs) (c.supplied.ensures.supplied order ordered) (among_get c.args.context c.supplied.result.now _ c.in-Some.ensures.there)),
  λ _. refl,
)

pub returns-in-None : goal.returns-in-None
returns-in-None c = (
  λ t. absurd (true≢false (sym t)),
  λ s. let (order, ordered) = import_order_exists c.args.plan.now in
      absurd (c.in-None.ensures.none (subst (λ xs. IsAmong c.args.context xs) (sym (c.supplied.ensures.supplied order ordered)) (in_order c.args.plan.now c.args.other order ordered c.args.context s))),
)
