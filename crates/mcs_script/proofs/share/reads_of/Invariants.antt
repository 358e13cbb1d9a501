use Rattle.std.proofs.Common.{map, drop, []}
use Rattle.std.specs.List.{flat_map}
use Rattle.mcs_system.specs.Faults.{reads_of}
use Rattle.mcs_system.specs.Seen.{bridge_of, read_of}
use Rattle.mcs_script.proofs.FoundLemmas.{Goes}
use Rattle.mcs_script.proofs.share.reads_of.Given as goal

abbrev pub invariant-loop-rule : goal.invariant-loop-rule
invariant-loop-rule l = Goes [] (flat_map reads_of (map bridge_of l.rules)) (map read_of l.found.items) (flat_map reads_of (map bridge_of (drop l.rule-index l.rules)))
