use Rattle.std.proofs.Common.{◌≡◌, map, drop}
use Rattle.mcs_system.specs.Faults.{has_twins}
use Rattle.mcs_system.proofs.Twins.{has_twin_left}
use Rattle.mcs_system.proofs.faults.has_twins.Given as goal

abbrev pub invariant-loop-item : goal.invariant-loop-item
invariant-loop-item g l = has_twins (map g.T.HasName.named l.items) ≡ has_twin_left l.seen.keys (map g.T.HasName.named (drop l.item-index l.items))
