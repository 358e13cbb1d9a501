use Rattle.std.proofs.Common.{List}
use Rattle.std.specs.List.{AllByRecursion}
use Rattle.mcs_system.specs.Plain.{Item}
use Rattle.mcs_classical.specs.declared.assumptions.Assumption.{Assumption}
use Rattle.mcs_default.specs.Searches.{IsConflict}
use Rattle.mcs_default.specs.Keeping.{items_with, IsKeptConflict}
use Rattle.mcs_default.proofs.kept.keep_conflicts.Given as goal

abbrev pub invariant-loop-index : goal.invariant-loop-index
invariant-loop-index l = (items : List Item) (given : List Assumption) → AllByRecursion (IsConflict (items_with items given l.assumed)) l.conflicts → AllByRecursion (IsKeptConflict items given) l.fn.kept.items → AllByRecursion (IsKeptConflict items given) l.kept.items
