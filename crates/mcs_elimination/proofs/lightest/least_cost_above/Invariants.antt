use Rattle.std.proofs.Common.{◌≡◌, ◌+◌, ◌*◌, ℕ, map, max, take}
use Rattle.std.specs.List.{fold}
use Rattle.mcs_system.specs.declared.bridge.Bridge as code
use Rattle.mcs_elimination.specs.Lightest.{least_above}
use Rattle.mcs_elimination.proofs.lightest.least_cost_above.Given as goal

abbrev pub invariant-loop-bridge : goal.invariant-loop-bridge
invariant-loop-bridge l = l.bound ≡ fold (λ (bound weight : ℕ). max bound (least_above l.system l.level weight)) ((l.level + 1) * l.least) (map (λ (b : code.Bridge). b.weight) (take l.bridge-index l.bridges))
