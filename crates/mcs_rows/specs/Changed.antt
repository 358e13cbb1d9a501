-- What a pair of sets of rules makes of the local rows of the contexts.
use Rattle.std.specs.Prelude.{◌≡◌, ℕ, List, length, Some, slice_get}
use Rattle.mcs_sets.specs.Sets.{common, union, minus}
use Rattle.mcs_base.specs.Listings.{IsAmong, IsListing}
use Rattle.mcs_base.specs.Pairs.{removed_of, forced_of}
use Rattle.mcs_system.specs.Plain.{System}
use Rattle.mcs_system.specs.Systems.{applicable}
use Rattle.mcs_system.specs.Imports.{rules_into}
use Rattle.mcs_table.specs.declared.row.Row.{Row}
use Rattle.mcs_table.specs.RowOrder.{RowBefore}
use Rattle.mcs_table.specs.Tables.{TableData, IsTable}
use Rattle.mcs_rows.specs.Local.{IsLocalTable, AreLocalTables}

-- the rules into context i that apply in the state
abbrev pub applicable_into : System → ℕ → ℕ → ℕ
applicable_into m i σ = common (applicable m σ) (rules_into m i)

-- the rules into context i that act in the state where the system is changed by the pair
abbrev pub acting_into : System → ℕ → ℕ → ℕ → ℕ
acting_into m i pair σ = union (minus (applicable_into m i σ) (removed_of pair)) (common (forced_of pair) (rules_into m i))

-- the row's marks are at the rules into context i that apply in its state and do not act, and at those that act and do not apply
pub record HasMarksOf (m : System) (i pair : ℕ) (r : Row) : Type 0 where
  pub removed : removed_of r.marks ≡ minus (applicable_into m i r.state.values) (acting_into m i pair r.state.values)
  pub forced : forced_of r.marks ≡ minus (acting_into m i pair r.state.values) (applicable_into m i r.state.values)

-- u has exactly such rows of t
pub record IsChangedTable (m : System) (i pair : ℕ) (t u : TableData) : Type 0 where
  pub table : IsTable u
  pub rows : IsListing (λ r. IsAmong r t.rows × HasMarksOf m i pair r) RowBefore u.rows

-- so it is of each of these
abbrev pub AreEachChanged : System → ℕ → List TableData → List TableData → Type 0
AreEachChanged m pair ts us = (i : ℕ) (t u : TableData) → slice_get ts i ≡ Some t → slice_get us i ≡ Some u → IsChangedTable m i pair t u

-- so it is of each context
pub record AreChangedTables (m : System) (pair : ℕ) (ts us : List TableData) : Type 0 where
  pub one_each : length us ≡ length ts
  pub changed : AreEachChanged m pair ts us

-- ---- of the local rows
-- u has exactly such ones of the local rows of context i at the level
pub record IsChangedAt (m : System) (level i pair : ℕ) (u : TableData) : Type 0 where
  pub all : TableData
  pub local : IsLocalTable m level i all
  pub changed : IsChangedTable m i pair all u

-- so it is of each context, in order
pub record AreChangedAt (m : System) (level pair : ℕ) (us : List TableData) : Type 0 where
  pub all : List TableData
  pub local : AreLocalTables m level all
  pub changed : AreChangedTables m pair all us
