-- What is kept of a default theory from one set of assumptions to the next.
use Rattle.std.specs.Prelude.{◌≡◌, ℕ, List, ◌++◌, map}
use Rattle.std.specs.List.{AllByRecursion}
use Rattle.mcs_system.specs.Plain.{Name, Item, Fact}
use Rattle.mcs_cnf.specs.ClauseLists.{clause_list}
use Rattle.mcs_classical.specs.Assumptions.{assumed}
use Rattle.mcs_classical.specs.declared.assumptions.Assumption as assumption
use Rattle.mcs_evidence.specs.Defaults.{facts_of}
use Rattle.mcs_default.specs.Searches.{IsLower, IsUpper, IsConflict}
use Rattle.mcs_default.specs.declared.kept.KeptLower as lower
use Rattle.mcs_default.specs.declared.kept.KeptUpper as upper
use Rattle.mcs_default.specs.declared.kept.KeptConflict as conflict
use Rattle.mcs_default.specs.declared.base.TheoryBase as base

-- the items with those formulas as facts whose numbers are in the set
abbrev pub items_with : List Item → List assumption.Assumption → ℕ → List Item
items_with items assumptions set = items ++ map Fact (assumed set assumptions)

-- each was found with its set of assumptions
abbrev pub IsKeptLower : List Item → List assumption.Assumption → lower.KeptLower → Type 0
IsKeptLower items assumptions k = IsLower (items_with items assumptions k.assumed) k.lower

abbrev pub IsKeptUpper : List Name → List Item → List assumption.Assumption → upper.KeptUpper → Type 0
IsKeptUpper names items assumptions k = IsUpper names (items_with items assumptions k.assumed) k.upper

abbrev pub IsKeptConflict : List Item → List assumption.Assumption → conflict.KeptConflict → Type 0
IsKeptConflict items assumptions k = IsConflict (items_with items assumptions k.assumed) k.set

-- the clauses are those of the facts of the items, and what is kept was found with these assumptions
pub record IsTheoryBase (names : List Name) (items : List Item) (assumptions : List assumption.Assumption) (b : base.TheoryBase) : Type 0 where
  pub facts : b.findings.facts ≡ clause_list names (facts_of items)
  pub lower : AllByRecursion (IsKeptLower items assumptions) b.lower.items
  pub upper : AllByRecursion (IsKeptUpper names items assumptions) b.upper.items
  pub conflicts : AllByRecursion (IsKeptConflict items assumptions) b.conflicts.items
