use Rattle.std.proofs.Common.{◌<◌, ◌∙◌, ℕ, length, sym, ap, subst}
use Rattle.std.specs.List.{All}
use Rattle.mcs_import.specs.Plans.{Part}
use Rattle.mcs_import.proofs.OrderLemmas.{import_order_exists, supplied_all}
use Rattle.mcs_import.proofs.plan.Plan.supplied.Goals as goal

pub returns-clause-in_range : goal.returns-clause-in_range
returns-clause-in_range c =
    let (order, is) = import_order_exists c.args.self.now in
    subst (All (λ (j : ℕ). j < length c.args.self.now.contexts)) (sym (c.deref.ensures.value ∙ ap (λ (p : Part). p.supplied) (c.share.ensures order is))) (supplied_all c.args.self.now order c.args.i is)
