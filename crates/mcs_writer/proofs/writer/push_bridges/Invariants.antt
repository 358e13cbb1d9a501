use Rattle.std.proofs.Common.{◌≡◌, ◌++◌, ◌<◌, length, map, drop}
use Rattle.std.specs.List.{flat_map, AllByRecursion}
use Rattle.mcs_system.specs.Faults.{reads_of}
use Rattle.mcs_system.specs.Plain.{Bridge, Read}
use Rattle.mcs_system.specs.Seen.{bridge_of}
use Rattle.mcs_writer.specs.Canonical.{bridge_text}
use Rattle.mcs_writer.proofs.writer.push_bridges.Given as goal

abbrev pub invariant-loop-bridge : goal.invariant-loop-bridge
invariant-loop-bridge l =
    let left = map bridge_of (drop l.bridge-index l.bridge-items) in
    record {
      written : l.text ++ flat_map (bridge_text l.system) left ≡ l.fn.text ++ flat_map (bridge_text l.system) l.system.bridges;
      targets : AllByRecursion (λ (b : Bridge). b.target < length l.system.contexts) left;
      reads : AllByRecursion (λ (b : Bridge). AllByRecursion (λ (r : Read). r.context < length l.system.contexts) (reads_of b)) left;
    }
