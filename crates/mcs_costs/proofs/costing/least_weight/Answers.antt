use Rattle.std.proofs.Common.{◌∙◌, ap, sym, subst, ℕ, List, Some, map}
use Rattle.std.proofs.lemmas.List.{take_all}
use Rattle.mcs_system.specs.declared.bridge.Bridge as code
use Rattle.mcs_system.specs.Plain.{Bridge}
use Rattle.mcs_base.specs.Least.{IsLeastOf}
use Rattle.mcs_costs.proofs.CostLemmas.{weights_more, weights_seen}
use Rattle.mcs_costs.proofs.costing.least_weight.Goals as goal

pub loop-bridge-preserved : goal.loop-bridge-preserved
loop-bridge-preserved c =
    let items = c.bridges-bridge-items.result.now in
    subst (λ (ws : List ℕ). IsLeastOf ws (Some c.lesser.result)) (sym (weights_more items c.loop-bridge.bridge-index c.bridge-item.result c.loop-bridge-test.true c.bridge-item.is))
    (c.lesser.ensures _ c.loop-bridge.invariant)

pub returns : goal.returns
returns c =
    let items = c.bridges-bridge-items.result.now in
    subst (λ (ws : List ℕ). IsLeastOf ws c.loop-bridge.least)
    (ap (map (λ (b : code.Bridge). b.weight)) (take_all c.loop-bridge.bridge-index items c.loop-bridge-test.false) ∙ weights_seen items ∙ ap (map (λ (b : Bridge). b.weight)) c.bridges-bridge-items.ensures.value) c.loop-bridge.invariant
