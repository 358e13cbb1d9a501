-- The first of some states, and the states of joint rows.
use Rattle.std.specs.Prelude.{◌≡◌, ℕ, ◌⊎◌, ◌↔◌, Bool, false, IsTrue, cond, List, Option, MatchOption}
use Rattle.std.specs.List.{AllByRecursion}
use Rattle.mcs_sets.specs.Orders.{StateBefore}
use Rattle.mcs_sets.specs.Sets.{has, single}
use Rattle.mcs_base.specs.Listings.{IsAmong, IsListing}
use Rattle.mcs_base.specs.Partials.{PartialState, Fits}
use Rattle.mcs_table.specs.declared.row.Row.{Row}
use Rattle.mcs_table.specs.RowOrder.{RowBefore}
use Rattle.mcs_table.specs.Tables.{TableData, IsTable}
use Rattle.mcs_table.specs.Joins.{IsJointRow}
use Rattle.mcs_joint.specs.Apart.{EachApart}

-- σ is one of the states for which P holds, and comes before all others
pub record IsFirst (P : ℕ → Type 0) (σ : ℕ) : Type 0 where
  pub one : P σ
  pub first : (τ : ℕ) → P τ → (σ ≡ τ) ⊎ StateBefore σ τ

-- the first of the states for which P holds is told, or that there is none
abbrev pub TellsFirst : (ℕ → Type 0) → Option ℕ → Type 0
TellsFirst P told = MatchOption told ((σ : ℕ) → ¬ P σ) (IsFirst P)

-- σ is the state of a joint row of the tables
abbrev pub IsJointState : ℕ → List TableData → ℕ → Type 0
IsJointState level tables σ = (r : Row) × IsJointRow level tables r × (r.state.values ≡ σ)

-- the tables have a joint row
abbrev pub HaveJointRow : ℕ → List TableData → Type 0
HaveJointRow level tables = (r : Row) × IsJointRow level tables r

-- the state that gives this variable alone a value
abbrev pub valued : ℕ → Bool → PartialState
valued variable value = record { mask = single variable; values = cond value (single variable) 0 }

-- u has exactly the rows of t that fit the partial state
pub record IsNarrowed (partial : PartialState) (t u : TableData) : Type 0 where
  pub scope : u.scope ≡ t.scope
  pub table : IsTable u
  pub rows : IsListing (λ r. IsAmong r t.rows × Fits r.state partial) RowBefore u.rows

-- It is told whether some joint row holds the variable. Where one does, just those that hold it are left; elsewhere all are.
pub record IsVariableSettled (level variable : ℕ) (holds : Bool) (before after : List TableData) : Type 0 where
  pub tables : AllByRecursion IsTable after
  pub apart : EachApart after
  pub joint : (r : Row) → IsJointRow level after r ↔ (IsJointRow level before r × (has r.state.values variable ≡ holds))
  pub some : IsTrue holds → HaveJointRow level after
  pub all : holds ≡ false → (r : Row) → IsJointRow level before r → has r.state.values variable ≡ false
