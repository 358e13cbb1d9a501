use Rattle.std.proofs.Common.{map, take}
use Rattle.mcs_system.specs.declared.bridge.Bridge as code
use Rattle.mcs_base.specs.Least.{IsLeastOf}
use Rattle.mcs_costs.proofs.costing.least_weight.Given as goal

abbrev pub invariant-loop-bridge : goal.invariant-loop-bridge
invariant-loop-bridge l = IsLeastOf (map (λ (b : code.Bridge). b.weight) (take l.bridge-index l.bridge-items)) l.least
