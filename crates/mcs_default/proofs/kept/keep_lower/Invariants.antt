use Rattle.std.proofs.Common.{List}
use Rattle.std.specs.List.{AllByRecursion}
use Rattle.mcs_system.specs.Plain.{Item}
use Rattle.mcs_classical.specs.declared.assumptions.Assumption.{Assumption}
use Rattle.mcs_default.specs.Searches.{IsLower}
use Rattle.mcs_default.specs.Keeping.{items_with, IsKeptLower}
use Rattle.mcs_default.proofs.kept.keep_lower.Given as goal

abbrev pub invariant-loop-index : goal.invariant-loop-index
invariant-loop-index l = (items : List Item) (given : List Assumption) → AllByRecursion (IsLower (items_with items given l.assumed)) l.lower → AllByRecursion (IsKeptLower items given) l.fn.kept.items → AllByRecursion (IsKeptLower items given) l.kept.items
