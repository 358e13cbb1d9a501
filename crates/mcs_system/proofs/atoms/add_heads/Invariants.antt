use Rattle.std.proofs.Common.{map, drop}
use Rattle.std.specs.List.{flat_map}
use Rattle.mcs_system.specs.declared.limit.Limit.TheVariants.{AtomsPerContext}
use Rattle.mcs_system.specs.Gathered.{head_atoms}
use Rattle.mcs_system.specs.Logic.{same_name}
use Rattle.mcs_system.specs.Seen.{bridge_of}
use Rattle.mcs_system.proofs.GatherLemmas.{Goes}
use Rattle.mcs_system.proofs.atoms.add_heads.Given as goal

abbrev pub invariant-loop-bridge : goal.invariant-loop-bridge
invariant-loop-bridge l = Goes AtomsPerContext same_name l.fn.found.items (flat_map (head_atoms l.context) (map bridge_of l.bridges)) l.found.items (flat_map (head_atoms l.context) (map bridge_of (drop l.bridge-index l.bridges)))
