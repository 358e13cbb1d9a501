use Rattle.std.proofs.Common.{◌≡◌, ◌≤◌, map, take, count_by}
use Rattle.mcs_system.specs.Faults.{is_default}
use Rattle.mcs_system.specs.Seen.{item_of}
use Rattle.mcs_system.proofs.faults.default_count.Given as goal

abbrev pub invariant-loop-item : goal.invariant-loop-item
invariant-loop-item l = (l.count ≤ l.item-index) × (l.count ≡ count_by is_default (map item_of (take l.item-index l.item-items)))
