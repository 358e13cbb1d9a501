use Rattle.std.proofs.Common.{ℕ, List, ◌++◌, map, take}
use Rattle.mcs_base.specs.Least.{IsLeastOf}
use Rattle.mcs_costs.specs.Costs.{cost}
use Rattle.mcs_costs.proofs.choosing.least_cost.Given as goal

abbrev pub invariant-loop-marks : goal.invariant-loop-marks
invariant-loop-marks l = (before : List ℕ) → IsLeastOf (map (cost l.system) before) l.fn.least → IsLeastOf (map (cost l.system) (before ++ take l.marks-index l.pairs)) l.least
