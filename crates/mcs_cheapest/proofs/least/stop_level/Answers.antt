use Rattle.std.proofs.Common.{◌≡◌, ◌/◌, min, refl, subst, length, arith}
use Rattle.mcs_base.specs.Least.{IsLeastOf}
use Rattle.mcs_costs.specs.Costs.{weights}
use Rattle.mcs_costs.proofs.CostLemmas.{least_weight_some}
use Rattle.mcs_cheapest.specs.Found.{IsLeastCost}
use Rattle.mcs_cheapest.proofs.LeastLemmas.{last_counted, stops_at, stops_first, stops_last}
use Rattle.mcs_cheapest.proofs.least.stop_level.Goals as goal

pub returns-in_default : goal.returns-in_default
returns-in_default c =
    let m = c.args.system.now in
    let all = last_counted m m c.bridges.result.now refl c.bridges.ensures.value in
    stops_last m (length c.bridges.result.now) all (subst (IsLeastCost m) c.in_default.is c.cost_of_each.ensures)

pub returns-in_default-least_weight : goal.returns-in_default-least_weight
returns-in_default-least_weight c =
    let m = c.args.system.now in
    let all = last_counted m m c.bridges.result.now refl c.bridges.ensures.value in
    stops_first m c.bridges.ensures.valid (length c.bridges.result.now) all (subst (IsLeastOf (weights m)) c.in_default-least_weight.is c.least_weight.ensures)

pub nonzero_div-cost : goal.nonzero_div-cost
nonzero_div-cost c =
    let m = c.args.system.now in
    omega (arith, least_weight_some m c.bridges.ensures.valid c.in-Some-least_weight.weight (subst (IsLeastOf (weights m)) c.in-Some-least_weight.is c.least_weight.ensures))

pub returns : goal.returns
returns c =
    let m = c.args.system.now in
    let all = last_counted m m c.bridges.result.now refl c.bridges.ensures.value in
    let at : c.min.result ≡ min (c.in-Some.cost / c.in-Some-least_weight.weight) (length c.bridges.result.now) = omega (arith, c.min.ensures) in
    stops_at m c.bridges.ensures.valid c.in-Some.cost c.in-Some-least_weight.weight (length c.bridges.result.now) c.min.result all
    (subst (IsLeastCost m) c.in-Some.is c.cost_of_each.ensures) (subst (IsLeastOf (weights m)) c.in-Some-least_weight.is c.least_weight.ensures) at
