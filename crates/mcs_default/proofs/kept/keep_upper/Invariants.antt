use Rattle.std.proofs.Common.{ℕ, List}
use Rattle.std.specs.List.{AllByRecursion}
use Rattle.mcs_system.specs.Plain.{Item}
use Rattle.mcs_default.specs.Searches.{IsUpper}
use Rattle.mcs_default.specs.Keeping.{items_with, IsKeptUpper}
use Rattle.mcs_default.proofs.kept.keep_upper.Given as goal

abbrev pub invariant-loop-index : goal.invariant-loop-index
invariant-loop-index l = (items : List Item) (set : ℕ) → AllByRecursion (IsUpper l.given.asked.now.atoms.now (items_with items l.given.assumptions.now set)) l.upper → AllByRecursion (IsKeptUpper l.given.asked.now.atoms.now items l.given.assumptions.now) l.fn.kept.items → AllByRecursion (IsKeptUpper l.given.asked.now.atoms.now items l.given.assumptions.now) l.kept.items
