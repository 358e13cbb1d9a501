use Rattle.std.proofs.Common.{List}
use Rattle.std.specs.List.{AllByRecursion}
use Rattle.mcs_system.specs.Plain.{Name, Item}
use Rattle.mcs_classical.specs.declared.assumptions.Assumption.{Assumption}
use Rattle.mcs_default.specs.Searches.{IsUpper}
use Rattle.mcs_default.specs.Keeping.{items_with, IsKeptUpper}
use Rattle.mcs_default.proofs.kept.select_upper.Given as goal

abbrev pub invariant-loop-found : goal.invariant-loop-found
invariant-loop-found l = (names : List Name) (items : List Item) (given : List Assumption) → AllByRecursion (IsKeptUpper names items given) l.kept → AllByRecursion (IsUpper names (items_with items given l.assumed)) l.upper.items
