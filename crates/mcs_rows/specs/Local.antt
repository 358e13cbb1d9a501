-- What a context's answers come to: what it may supply, and its local rows.
use Rattle.std.specs.Prelude.{◌≡◌, ℕ, ◌<◌, List, [], map, length, Some, slice_get}
use Rattle.std.specs.List.{AllByRecursion, AllZip}
use Rattle.std.specs.List.Sorted.{IsPermutation}
use Rattle.mcs_sets.specs.Orders.{StateBefore}
use Rattle.mcs_base.specs.Listings.{IsListing}
use Rattle.mcs_system.specs.Plain.{System}
use Rattle.mcs_system.specs.Systems.{IsAcceptedPart}
use Rattle.mcs_system.specs.Rows.{local_of}
use Rattle.mcs_system.specs.Levels.{IsQuestionAt, IsLocalRow}
use Rattle.mcs_table.specs.RowOrder.{RowBefore}
use Rattle.mcs_table.specs.Fitting.{IsFitting, AreFittingAfter}
use Rattle.mcs_table.specs.Tables.{TableData}
use Rattle.mcs_table.specs.Without.{IsWithout}
use Rattle.mcs_table.specs.declared.row.Row.{Row}

-- what was asked, and the parts that were accepted with it
pub record Answered : Type 0 where
  pub question : ℕ
  pub parts : List ℕ

-- the answers to all questions of the level to context i: each question once, ascending, with the listing of what is accepted with it
pub record AreAnswered (m : System) (level i : ℕ) (answers : List Answered) : Type 0 where
  pub questions : IsListing (IsQuestionAt m level i) (λ a b. a < b) (map (λ (a : Answered). a.question) answers)
  pub parts : AllByRecursion (λ (a : Answered). IsListing (IsAcceptedPart m i a.question) StateBefore a.parts) answers

-- a row of a table that is a local row of context i at the level
pub record IsRowOf (m : System) (level i : ℕ) (r : Row) : Type 0 where
  pub mask : r.state.mask ≡ local_of m i
  pub local : IsLocalRow m level i r.state.values r.marks

-- the table has exactly the local rows of context i at the level
pub record IsLocalTable (m : System) (level i : ℕ) (t : TableData) : Type 0 where
  pub scope : t.scope ≡ local_of m i
  pub rows : IsListing (IsRowOf m level i) RowBefore t.rows

-- one such table for each context, in order
pub record AreLocalTables (m : System) (level : ℕ) (tables : List TableData) : Type 0 where
  pub one_each : length tables ≡ length m.contexts
  pub local : (i : ℕ) (t : TableData) → slice_get tables i ≡ Some t → IsLocalTable m level i t

-- of those local rows of context i at the level within whose marks none of the known sets lies, the table has minimal ones, and those of each state that fits a row of each of the others
pub record IsFittingTable (m : System) (level i : ℕ) (known : List ℕ) (others : List TableData) (u : TableData) : Type 0 where
  pub all : TableData
  pub local : IsLocalTable m level i all
  pub left : TableData
  pub without : IsWithout known all left
  pub fitting : IsFitting others left u

-- so it is of each context, in some order, with respect to the tables before it
pub record AreFittingTables (m : System) (level : ℕ) (known : List ℕ) (tables : List TableData) : Type 0 where
  pub all : List TableData
  pub local : AreLocalTables m level all
  pub left : List TableData
  pub without : AllZip (IsWithout known) all left
  pub ordered : List TableData
  pub moved : IsPermutation left ordered
  pub fitting : AreFittingAfter [] ordered tables
