-- Rows of one state that are kept, one after the other.
use Rattle.std.specs.Prelude.{◌≡◌, ◌⊎◌, ℕ, ◌<◌, List, drop, Option, Some, None}
use Rattle.mcs_base.specs.Listings.{IsAmong}
use Rattle.mcs_base.specs.Partials.{PartialState}
use Rattle.mcs_table.specs.declared.row.Row.{Row}
use Rattle.mcs_elimination.specs.CheapestRows.{HaveOneState}
use Rattle.mcs_elimination.specs.declared.run.Run.{Run}

-- the rows from a place on have the same state, and cost as much as is told
pub record IsRun (price : ℕ → ℕ) (rows : List Row) (run : Run) : Type 0 where
  pub states : HaveOneState (λ r. IsAmong r (drop run.from rows))
  pub prices : (r : Row) → IsAmong r (drop run.from rows) → price r.marks ≡ run.price

-- there is a row, and it is of this state
abbrev pub BeginsWith : Option Row → PartialState → Type 0
BeginsWith None state = ⊥
BeginsWith (Some first) state = first.state ≡ state

-- it is one of the rows, or the other one
abbrev pub IsOneMore : List Row → Row → Row → Type 0
IsOneMore rows row r = IsAmong r rows ⊎ (r ≡ row)

-- one of these costs less than another of the same state
pub record IsOutdone (price : ℕ → ℕ) (P : Row → Type 0) (r : Row) : Type 0 where
  pub by : Row
  pub one : P by
  pub state : by.state ≡ r.state
  pub cheaper : price by.marks < price r.marks

-- The row was added, where it is not outdone, and rows that it outdoes were dropped. Where all have its state, the run still begins with the first of them.
pub record IsAdded (price : ℕ → ℕ) (row : Row) (before after : List Row) (run next : Run) : Type 0 where
  pub from : (r : Row) → IsAmong r after → IsOneMore before row r
  pub lost : (r : Row) → IsOneMore before row r → IsAmong r after ⊎ IsOutdone price (IsOneMore before row) r
  pub run_is : IsRun price after next
  pub first : ((r : Row) → IsAmong r before → r.state ≡ row.state) → run.from ≡ 0 → next.from ≡ 0
