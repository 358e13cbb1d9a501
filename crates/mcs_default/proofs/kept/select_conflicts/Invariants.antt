use Rattle.std.proofs.Common.{List}
use Rattle.std.specs.List.{AllByRecursion}
use Rattle.mcs_system.specs.Plain.{Item}
use Rattle.mcs_classical.specs.declared.assumptions.Assumption.{Assumption}
use Rattle.mcs_default.specs.Searches.{IsConflict}
use Rattle.mcs_default.specs.Keeping.{items_with, IsKeptConflict}
use Rattle.mcs_default.proofs.kept.select_conflicts.Given as goal

abbrev pub invariant-loop-found : goal.invariant-loop-found
invariant-loop-found l = (items : List Item) (given : List Assumption) → AllByRecursion (IsKeptConflict items given) l.kept → AllByRecursion (IsConflict (items_with items given l.assumed)) l.conflicts.items
