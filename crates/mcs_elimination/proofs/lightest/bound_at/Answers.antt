use Rattle.std.proofs.Common.{◌<◌, length, ap, subst, arith}
use Rattle.std.proofs.lemmas.List.{length-map}
use Rattle.mcs_base.specs.Least.{IsLeastOf}
use Rattle.mcs_system.specs.Seen.{bridge_of}
use Rattle.mcs_costs.specs.Costs.{weights}
use Rattle.mcs_elimination.proofs.Settling.{no_rules}
use Rattle.mcs_elimination.proofs.lightest.bound_at.Goals as goal

pub returns-then-level-bridges : goal.returns-then-level-bridges
returns-then-level-bridges c = omega (arith, c.if-level-bridges.true, length-map c.bridges.result.now bridge_of, ap length c.bridges.ensures.value)

pub returns-in-None : goal.returns-in-None
returns-in-None c = no_rules c.args.system.now c.args.level (subst (IsLeastOf (weights c.args.system.now)) c.in-None.is c.least_weight.ensures)

pub least_cost_above-requires : goal.least_cost_above-requires
least_cost_above-requires c = subst (IsLeastOf (weights c.args.system.now)) c.in-Some.is c.least_weight.ensures

pub returns-in-Some : goal.returns-in-Some
returns-in-Some c =
    let m = c.args.system.now in
    let low : c.args.level < length m.bridges = omega (arith, c.if-level-bridges.false, length-map c.bridges.result.now bridge_of, ap length c.bridges.ensures.value) in
    (low, (c.in-Some.least, subst (IsLeastOf (weights m)) c.in-Some.is c.least_weight.ensures, c.least_cost_above.ensures))
