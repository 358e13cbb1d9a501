use Rattle.std.proofs.Common.{map, drop}
use Rattle.std.specs.List.{AllByRecursion}
use Rattle.mcs_system.proofs.names.are_named.Given as goal

abbrev pub invariant-loop-part : goal.invariant-loop-part
invariant-loop-part g l = AllByRecursion g.T.HasNames.IsNamed (map g.T.HasNames.seen (drop l.part-index l.parts)) → AllByRecursion g.T.HasNames.IsNamed (map g.T.HasNames.seen l.parts)
