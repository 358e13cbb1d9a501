-- Eliminating variables: tables are joined one after the other, and what no later table has is forgotten after each join.
use Rattle.std.specs.Prelude.{◌≡◌, ℕ, List, [], ◌∷◌, map}
use Rattle.std.specs.List.{AllByRecursion}
use Rattle.std.specs.List.Sorted.{IsPermutation}
use Rattle.mcs_sets.specs.Sets.{union, common}
use Rattle.mcs_sets.specs.Orders.{PairBefore}
use Rattle.mcs_base.specs.Listings.{IsListing}
use Rattle.mcs_base.specs.Minimal.{IsMinimal}
use Rattle.mcs_table.specs.declared.row.Row.{Row}
use Rattle.mcs_table.specs.RowOrder.{RowBefore}
use Rattle.mcs_table.specs.Tables.{TableData, IsTable, ShareNoMark, IsMinimalRow, IsJoin, IsForgetting, unit_table, restricted_row}
use Rattle.mcs_table.specs.Joins.{union_of, IsJointRow}

-- what is not forgotten yet: what is to be kept, and the variables of the tables to come
abbrev pub still_kept : ℕ → List TableData → ℕ
still_kept keep rest = union keep (union_of (λ (a : TableData). a.scope) rest)

-- t is left of the table after it is joined, at one level, with the others one after the other, and what is not still kept is forgotten after each join
abbrev pub EliminatesFrom : ℕ → ℕ → TableData → List TableData → TableData → Type 0
EliminatesFrom level keep from [] t = t ≡ from
EliminatesFrom level keep from (a ∷ rest) t =
    (joined : TableData) × (next : TableData) × IsJoin from a level joined × IsForgetting joined (still_kept keep rest) next × EliminatesFrom level keep next rest t

-- beginning with the table of no variables
abbrev pub EliminatesTo : ℕ → ℕ → List TableData → TableData → Type 0
EliminatesTo level keep tables t = EliminatesFrom level keep unit_table tables t

-- what a row for which S holds says of the variables of a set
pub record IsRestrictionOf (S : Row → Type 0) (keep : ℕ) (r : Row) : Type 0 where
  pub row : Row
  pub holds : S row
  pub is : r ≡ restricted_row row keep

-- t has, for each state on the variables that are kept, exactly the minimal ones of what the joint rows say of them
pub record IsEliminated (level keep : ℕ) (tables : List TableData) (t : TableData) : Type 0 where
  pub scope : t.scope ≡ common (union_of (λ (a : TableData). a.scope) tables) keep
  pub rows : IsListing (IsMinimalRow (IsRestrictionOf (IsJointRow level tables) keep)) RowBefore t.rows

-- the marks of a joint row
abbrev pub AreJointMarks : ℕ → List TableData → ℕ → Type 0
AreJointMarks level tables s = (r : Row) × IsJointRow level tables r × (s ≡ r.marks)

-- ---- the laws
-- tables can be eliminated, and a table of rows in order is left
abbrev pub EliminationExists : Type 0
EliminationExists = (level keep : ℕ) (tables : List TableData) → AllByRecursion IsTable tables → (t : TableData) × IsTable t × EliminatesTo level keep tables t

-- it has the minimal ones of what the joint rows say of the variables that are kept
abbrev pub EliminationIsMinimal : Type 0
EliminationIsMinimal = (level keep : ℕ) (tables : List TableData) (t : TableData) → AllByRecursion IsTable tables → EliminatesTo level keep tables t → IsEliminated level keep tables t

-- in whichever order they are taken
abbrev pub EliminationIgnoresOrder : Type 0
EliminationIgnoresOrder = (level keep : ℕ) (tables others : List TableData) (t u : TableData) → AllByRecursion IsTable tables → IsPermutation tables others
    → EliminatesTo level keep tables t → EliminatesTo level keep others u → t ≡ u

-- where nothing is kept, the marks of its rows are the minimal marks of all joint rows, in order
abbrev pub EliminationGivesMinimalMarks : Type 0
EliminationGivesMinimalMarks = (level : ℕ) (tables : List TableData) (t : TableData) → AllByRecursion IsTable tables → EliminatesTo level 0 tables t
    → IsListing (IsMinimal (AreJointMarks level tables)) PairBefore (map (λ (r : Row). r.marks) t.rows)

-- a table with which none of them has a mark in common has none in common with what is left, so that it can be the next
abbrev pub EliminationStaysApart : Type 0
EliminationStaysApart = (level keep : ℕ) (tables : List TableData) (t c : TableData) → EliminatesTo level keep tables t → AllByRecursion (λ (a : TableData). ShareNoMark a.rows c.rows) tables → ShareNoMark t.rows c.rows
