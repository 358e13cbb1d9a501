use Rattle.std.proofs.Common.{ℕ, subst, sym}
use Rattle.mcs_base.specs.Listings.{IsAmong}
use Rattle.mcs_base.proofs.Results.{none_weaker}
use Rattle.mcs_system.specs.Plain.{System}
use Rattle.mcs_import.proofs.OrderLemmas.{import_order_exists}
use Rattle.mcs_node.specs.Rounds.{Supplies}
use Rattle.mcs_node.proofs.HandlingLemmas.{in_order}
use Rattle.mcs_node.proofs.receiving.awaited.Goals as goal

pub returns-clause-none : goal.returns-clause-none
returns-clause-none c = none_weaker c.place_of.result (λ other mine.
    let (order, ordered) = import_order_exists c.args.plan.now in
    let fits : Supplies c.args.plan.now c.args.letter.now.from c.args.context = subst (λ (n : System). Supplies n c.args.letter.now.from c.args.context) mine.plan (subst (λ (j : ℕ). Supplies c.args.letter.now.plan c.args.letter.now.from j) mine.addressed c.from-2.ensures.fits) in
    other (subst (λ (x : ℕ). IsAmong x c.supplied.result.now) (sym c.from-2.ensures.from) (subst (λ xs. IsAmong c.args.letter.now.from xs) (sym (c.supplied.ensures.supplied order ordered)) (in_order c.args.plan.now c.args.context order ordered c.args.letter.now.from fits)))) c.place_of.ensures.none
