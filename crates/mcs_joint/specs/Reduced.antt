-- Tables without rows that make no difference.
use Rattle.std.specs.Prelude.{◌≡◌, ◌≤◌, ℕ, ◌↔◌, List, length}
use Rattle.std.specs.List.{AllByRecursion}
use Rattle.mcs_sets.specs.Sets.{size}
use Rattle.mcs_base.specs.Listings.{IsAmong, IsListing}
use Rattle.mcs_table.specs.declared.row.Row.{Row}
use Rattle.mcs_table.specs.RowOrder.{RowBefore}
use Rattle.mcs_table.specs.Tables.{TableData, IsTable}
use Rattle.mcs_table.specs.Joins.{IsJointRow}
use Rattle.mcs_joint.specs.Apart.{EachApart}

-- each row of one of the fewer tables is one of all tables
abbrev pub HaveRowsOf : List TableData → List TableData → Type 0
HaveRowsOf all fewer = (u : TableData) → IsAmong u fewer → (r : Row) → IsAmong r u.rows → (t : TableData) × IsAmong t all × IsAmong r t.rows

-- as many tables, still without a mark in common, that have the same joint rows and no other rows
pub record IsReduced (level : ℕ) (all fewer : List TableData) : Type 0 where
  pub one_each : length fewer ≡ length all
  pub tables : AllByRecursion IsTable all → AllByRecursion IsTable fewer
  pub apart : EachApart fewer
  pub rows : HaveRowsOf all fewer
  pub joint : (r : Row) → IsJointRow level all r ↔ IsJointRow level fewer r

-- u has exactly the rows of t with at most so many marks
pub record HasFewMarks (level : ℕ) (t u : TableData) : Type 0 where
  pub table : IsTable u
  pub rows : IsListing (λ r. IsAmong r t.rows × (size r.marks ≤ level)) RowBefore u.rows
