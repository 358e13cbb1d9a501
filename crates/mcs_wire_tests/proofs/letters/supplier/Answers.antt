use Rattle.std.proofs.Common.{sym, subst, arith}
use Rattle.std.proofs.lemmas.Grind.{common_steps}
use Rattle.mcs_base.specs.Listings.{IsAmong}
use Rattle.mcs_base.proofs.Among.{among_get}
use Rattle.mcs_import.proofs.OrderLemmas.{import_order_exists}
use Rattle.mcs_wire_tests.proofs.letters.supplier.Goals as goal

pub returns : goal.returns
returns c =
    let (order, ordered) = import_order_exists c.args.plan.now in
    (order, ordered, grind (arith, common_steps), subst (λ xs. IsAmong c.in-Some.from.now xs) (c.supplied.ensures.supplied order ordered) (among_get c.in-Some.from.now c.supplied.result.now 0 (sym c.in-Some.ensures.value)))
