use Rattle.std.proofs.Common.{◌+◌, ◌*◌, ◌∷◌, ◌∙◌, ap, sym, ℕ, [], map, max, take, arith}
use Rattle.std.proofs.lemmas.List.{take_all}
use Rattle.std.proofs.lemmas.List.Sums.{fold-append}
use Rattle.std.specs.List.{fold}
use Rattle.mcs_system.specs.declared.bridge.Bridge as code
use Rattle.mcs_system.specs.Plain.{Bridge}
use Rattle.mcs_costs.proofs.CostLemmas.{weights_more, weights_seen}
use Rattle.mcs_elimination.specs.Lightest.{least_above}
use Rattle.mcs_elimination.proofs.Above.{above_fits, least_few, weight_few}
use Rattle.mcs_elimination.proofs.lightest.least_cost_above.Goals as goal

pub overflow_mul-bound : goal.overflow_mul-bound
overflow_mul-bound c = omega (arith, above_fits c.args.level c.args.least c.ranges.level.fits (least_few c.args.system.now c.bridges-bridges.ensures.valid c.args.least c.requires))

pub raised-bound-requires : goal.raised-bound-requires
raised-bound-requires c = weight_few c.args.system.now c.bridges-bridges.ensures.valid c.bridges-bridges.result.now c.loop-bridge.bridge-index c.bridge-item.result c.bridges-bridges.ensures.value c.loop-bridge-test.true c.bridge-item.is

pub loop-bridge-preserved : goal.loop-bridge-preserved
loop-bridge-preserved c =
    let items = c.bridges-bridges.result.now in
    let next = λ (bound weight : ℕ). max bound (least_above c.args.system.now c.args.level weight) in
    let start = (c.args.level + 1) * c.args.least in
    let before = map (λ (b : code.Bridge). b.weight) (take c.loop-bridge.bridge-index items) in
    let w = c.bridge-item.result.weight in
    let more = ap (fold next start) (weights_more items c.loop-bridge.bridge-index c.bridge-item.result c.loop-bridge-test.true c.bridge-item.is) ∙ fold-append next start before (w ∷ []) in
    let so_far = ap (λ n. next n w) c.loop-bridge.invariant in
    c.raised-bound.ensures ∙ so_far ∙ sym more

pub returns : goal.returns
returns c =
    let items = c.bridges-bridges.result.now in
    let all = ap (map (λ (b : code.Bridge). b.weight)) (take_all c.loop-bridge.bridge-index items c.loop-bridge-test.false) ∙ weights_seen items ∙ ap (map (λ (b : Bridge). b.weight)) c.bridges-bridges.ensures.value in
    c.loop-bridge.invariant ∙ ap (fold (λ (bound weight : ℕ). max bound (least_above c.args.system.now c.args.level weight)) ((c.args.level + 1) * c.args.least)) all
