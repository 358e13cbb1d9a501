use Rattle.std.proofs.Common.{◌≡◌, ℕ, Option, length, sym, subst, arith}
use Rattle.mcs_base.proofs.Among.{among_get}
use Rattle.mcs_base.proofs.Lists.{slice_get_none}
use Rattle.mcs_system.proofs.MarkLemmas.{allowed_known}
use Rattle.mcs_cheapest.specs.Found.{IsLeastCost}
use Rattle.mcs_cheapest.proofs.LeastLemmas.{none_costs, one_costs}
use Rattle.mcs_cheapest.proofs.least.cost_of_each.Goals as goal

pub returns-in_err-first : goal.returns-in_err-first
returns-in_err-first c =
    let none : length c.args.pairs.now ≡ 0 = omega (arith, slice_get_none c.args.pairs.now 0 (sym c.in_err-first.ensures.value)) in
    subst (λ (o : Option ℕ). IsLeastCost c.args.system.now o) (sym c.from_residual.ensures) (none_costs c.args.system.now c.args.pairs.now c.requires none)

pub cost-requires : goal.cost-requires
cost-requires c =
    let among = among_get _ c.args.pairs.now 0 (sym c.in_ok-first.ensures.value) in
    allowed_known c.args.system.now _ ((c.requires.exactly _).0 among).one.allowed

pub returns : goal.returns
returns c = one_costs c.args.system.now c.args.pairs.now c.requires _ _ (among_get _ c.args.pairs.now 0 (sym c.in_ok-first.ensures.value)) c.cost.ensures.value
