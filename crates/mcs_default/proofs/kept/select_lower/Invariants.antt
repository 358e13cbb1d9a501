use Rattle.std.proofs.Common.{List}
use Rattle.std.specs.List.{AllByRecursion}
use Rattle.mcs_system.specs.Plain.{Item}
use Rattle.mcs_classical.specs.declared.assumptions.Assumption.{Assumption}
use Rattle.mcs_default.specs.Searches.{IsLower}
use Rattle.mcs_default.specs.Keeping.{items_with, IsKeptLower}
use Rattle.mcs_default.proofs.kept.select_lower.Given as goal

abbrev pub invariant-loop-found : goal.invariant-loop-found
invariant-loop-found l = (items : List Item) (given : List Assumption) → AllByRecursion (IsKeptLower items given) l.kept → AllByRecursion (IsLower (items_with items given l.assumed)) l.lower.items
