use Rattle.std.proofs.Common.{◌++◌, sym, subst, ℕ, List, Some, map, take}
use Rattle.std.proofs.lemmas.List.{append-nil, take_all}
use Rattle.mcs_sets.specs.Sets.{Within}
use Rattle.mcs_system.specs.Repairs.{all_marks}
use Rattle.mcs_base.specs.Least.{IsLeastOf}
use Rattle.mcs_base.proofs.Each.{all_read}
use Rattle.mcs_costs.specs.Costs.{cost}
use Rattle.mcs_costs.proofs.CostLemmas.{costs_more}
use Rattle.mcs_costs.proofs.choosing.least_cost.Goals as goal

pub loop-marks-init : goal.loop-marks-init
loop-marks-init c = λ before least. subst (λ (ps : List ℕ). IsLeastOf (map (cost c.args.system.now) ps) c.args.least) (sym (append-nil before)) least

pub cost-requires : goal.cost-requires
cost-requires c = all_read (λ p. Within p (all_marks c.args.system.now)) c.args.pairs.now c.loop-marks.marks-index c.marks-item.result c.loop-marks-test.true c.marks-item.is c.requires

pub loop-marks-preserved : goal.loop-marks-preserved
loop-marks-preserved c = λ before least.
    subst (λ (ns : List ℕ). IsLeastOf ns (Some c.lesser.result)) (sym (costs_more (cost c.args.system.now) before c.args.pairs.now c.loop-marks.marks-index c.marks-item.result c.cost.result c.loop-marks-test.true c.marks-item.is c.cost.ensures.value))
    (c.lesser.ensures (map (cost c.args.system.now) (before ++ take c.loop-marks.marks-index c.args.pairs.now)) (c.loop-marks.invariant before least))

pub returns : goal.returns
returns c = λ before least. subst (λ (ps : List ℕ). IsLeastOf (map (cost c.args.system.now) (before ++ ps)) c.loop-marks.least) (take_all c.loop-marks.marks-index c.args.pairs.now c.loop-marks-test.false) (c.loop-marks.invariant before least)
