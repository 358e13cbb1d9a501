use Rattle.std.proofs.Common.{drop}
use Rattle.std.specs.List.{AllByRecursion}
use Rattle.mcs_system.specs.Naming.{IsName}
use Rattle.mcs_system.proofs.names.names_are_names.Given as goal

abbrev pub invariant-loop-name : goal.invariant-loop-name
invariant-loop-name l = AllByRecursion IsName (drop l.name-index l.names) → AllByRecursion IsName (l.names)
