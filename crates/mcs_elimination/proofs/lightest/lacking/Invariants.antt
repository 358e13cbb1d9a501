use Rattle.std.proofs.Common.{◌≡◌, map, take}
use Rattle.std.specs.List.{sum_by}
use Rattle.mcs_system.specs.Seen.{bridge_of}
use Rattle.mcs_elimination.specs.Lightest.{lack_of}
use Rattle.mcs_elimination.proofs.lightest.lacking.Given as goal

abbrev pub invariant-loop-bridge : goal.invariant-loop-bridge
invariant-loop-bridge l = l.sum ≡ sum_by (lack_of l.weight) (map bridge_of (take l.bridge-index l.bridge-items))
