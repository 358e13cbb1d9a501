use Rattle.std.proofs.Common.{◌≡◌, ◌-◌, map}
use Rattle.std.specs.List.{range_with_len, flat_map}
use Rattle.mcs_system.specs.Seen.{bridge_of}
use Rattle.mcs_generator.specs.Generated.{rules_to}
use Rattle.mcs_generator.proofs.generating.bridges.Given as goal

abbrev pub invariant-loop-i : goal.invariant-loop-i
invariant-loop-i l = map bridge_of l.bridges.items ≡ flat_map (rules_to l.number) (range_with_len 1 (l.i - 1))
