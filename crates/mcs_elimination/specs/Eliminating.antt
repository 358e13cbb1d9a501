-- What tables are eliminated, over costs.
use Rattle.std.specs.Prelude.{◌≡◌, ℕ, ◌*◌, ◌≤◌, List, [], length, Option, Some, None, IsTrue}
use Rattle.std.specs.List.{AllByRecursion}
use Rattle.mcs_sets.specs.Sets.{has, single, Within}
use Rattle.mcs_base.specs.Listings.{IsAmong, IsInventory}
use Rattle.mcs_system.specs.Faults.{IsValid}
use Rattle.mcs_system.specs.Plain.{System}
use Rattle.mcs_system.specs.Repairs.{all_marks, allowed_marks}
use Rattle.mcs_costs.specs.Costs.{cost}
use Rattle.mcs_table.specs.declared.row.Row.{Row}
use Rattle.mcs_table.specs.Tables.{TableData, IsTable, ShareNoMark}
use Rattle.mcs_joint.specs.Apart.{EachApart}
use Rattle.mcs_elimination.specs.CheapestRows.{IsBelow}
use Rattle.mcs_elimination.specs.Lightest.{IsBoundAt, IsReachedAbove}

-- No bound is given at the level of all rules alone; elsewhere each set of more than so many marks that a repair may have, at most one of each rule, reaches it, so that a minimal diagnosis that costs less has at most so many marks.
abbrev pub IsCostBound : System → ℕ → Option ℕ → Type 0
IsCostBound m level None = length m.bridges ≤ level
IsCostBound m level (Some bound) = IsReachedAbove m level bound

-- each of the sets of marks costs as much as the bound, if there is one, or more
abbrev pub AreReaching : System → Option ℕ → List ℕ → Type 0
AreReaching m below sets = AllByRecursion (λ s. ¬ IsBelow below (cost m s)) sets

-- so it is for the bound at this level; where there is none, there are no such sets
abbrev pub AreDear : System → ℕ → List ℕ → Type 0
AreDear m level sets = (below : Option ℕ) → IsBoundAt m level below → AreReaching m below sets

-- a mark that a repair may have that alone costs so much or more, as a set of its own
abbrev pub IsDearMark : System → ℕ → ℕ → Type 0
IsDearMark m price set = (k : ℕ) × IsTrue (has (allowed_marks m) k) × (set ≡ single k) × (price ≤ cost m set)

-- exactly the marks that alone reach the bound, if there is one, each once; none without a bound
abbrev pub AreDearFor : System → Option ℕ → List ℕ → Type 0
AreDearFor m None sets = sets ≡ []
AreDearFor m (Some bound) sets = IsInventory (IsDearMark m bound) sets

-- so it is for the bound at this level
abbrev pub AreDearMarks : System → ℕ → List ℕ → Type 0
AreDearMarks m level sets = (bound : Option ℕ) × IsBoundAt m level bound × AreDearFor m bound sets

-- the marks of the rows are those of rules of the system
abbrev pub HaveMarks : System → List Row → Type 0
HaveMarks m rows = AllByRecursion (λ (r : Row). Within r.marks (all_marks m)) rows

-- two tables that can be joined, with marks that cost something
pub record CanJoin (m : System) (a b : TableData) : Type 0 where
  pub apart : ShareNoMark a.rows b.rows
  pub first : HaveMarks m a.rows
  pub second : HaveMarks m b.rows

-- tables that can be eliminated, at a level with room for all marks
pub record CanEliminate (m : System) (level : ℕ) (tables : List TableData) : Type 0 where
  pub valid : IsValid m
  pub are : AllByRecursion IsTable tables
  pub apart : EachApart tables
  pub marks : (t : TableData) → IsAmong t tables → HaveMarks m t.rows
  pub room : 2 * length m.bridges ≤ level
