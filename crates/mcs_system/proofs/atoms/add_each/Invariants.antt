use Rattle.std.proofs.Common.{drop, map}
use Rattle.std.specs.List.{flat_map}
use Rattle.mcs_system.specs.declared.limit.Limit.TheVariants.{AtomsPerContext}
use Rattle.mcs_system.specs.Logic.{same_name}
use Rattle.mcs_system.proofs.GatherLemmas.{Goes}
use Rattle.mcs_system.proofs.atoms.add_each.Given as goal

abbrev pub invariant-loop-part : goal.invariant-loop-part
invariant-loop-part g l = Goes AtomsPerContext same_name l.fn.found.items (flat_map g.T.HasAtoms.atoms (map g.T.HasAtoms.seen l.parts)) l.found.items (flat_map g.T.HasAtoms.atoms (map g.T.HasAtoms.seen (drop l.part-index l.parts)))
