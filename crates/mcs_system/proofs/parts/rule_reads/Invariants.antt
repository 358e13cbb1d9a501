use Rattle.std.proofs.Common.{◌≡◌, map, take}
use Rattle.mcs_system.specs.Parts.{rule_part, rule_part_of}
use Rattle.mcs_system.specs.Seen.{read_of, bridge_of}
use Rattle.mcs_system.proofs.parts.rule_reads.Given as goal

abbrev pub invariant-loop-bridge : goal.invariant-loop-bridge
invariant-loop-bridge l = map rule_part_of l.reads.items ≡ map (rule_part (map read_of l.known)) (map bridge_of (take l.bridge-index l.bridges))
