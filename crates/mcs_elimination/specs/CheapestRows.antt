-- The cheapest rows: of those of one state the ones whose marks cost the least, where that is less than a bound.
use Rattle.std.specs.Prelude.{◌≡◌, ℕ, ◌<◌, ◌≤◌, List, map, Option, Some, None}
use Rattle.mcs_base.specs.Listings.{IsAmong}
use Rattle.mcs_table.specs.declared.row.Row.{Row}
use Rattle.mcs_table.specs.Elimination.{AreJointMarks}
use Rattle.mcs_table.specs.Tables.{TableData}

-- it is less than the bound, where there is one
abbrev pub IsBelow : Option ℕ → ℕ → Type 0
IsBelow None price = Unit {0}
IsBelow (Some bound) price = price < bound

-- one for which P holds, whose marks cost less than the bound, and no more than those of any other of the same state for which P holds
pub record IsCheapestRow (price : ℕ → ℕ) (below : Option ℕ) (P : Row → Type 0) (r : Row) : Type 0 where
  pub one : P r
  pub cheap : IsBelow below (price r.marks)
  pub least : (s : Row) → P s → s.state ≡ r.state → price r.marks ≤ price s.marks

-- all for which P holds have the same state
abbrev pub HaveOneState : (Row → Type 0) → Type 0
HaveOneState P = (x y : Row) → P x → P y → x.state ≡ y.state

-- u has rows of t that cost less than the bound, with all the cheapest of them; where all of t have the same state, just these
pub record HasCheapest (price : ℕ → ℕ) (below : Option ℕ) (t u : TableData) : Type 0 where
  pub rows : (r : Row) → IsAmong r u.rows → IsAmong r t.rows
  pub cheap : (r : Row) → IsAmong r u.rows → IsBelow below (price r.marks)
  pub cheapest : (r : Row) → IsCheapestRow price below (λ s. IsAmong s t.rows) r → IsAmong r u.rows
  pub alike : HaveOneState (λ r. IsAmong r t.rows) → (x y : Row) → IsAmong x u.rows → IsAmong y u.rows → price x.marks ≡ price y.marks

-- the table has marks of joint rows of the tables that cost less than the bound, all of them as much, with all the cheapest of them
pub record HasCheapestMarks (price : ℕ → ℕ) (below : Option ℕ) (level : ℕ) (tables : List TableData) (t : TableData) : Type 0 where
  pub joint : (r : Row) → IsAmong r t.rows → AreJointMarks level tables r.marks
  pub cheap : (r : Row) → IsAmong r t.rows → IsBelow below (price r.marks)
  pub alike : (x y : Row) → IsAmong x t.rows → IsAmong y t.rows → price x.marks ≡ price y.marks
  pub cheapest : (s : ℕ) → AreJointMarks level tables s → IsBelow below (price s) → ((other : ℕ) → AreJointMarks level tables other → price s ≤ price other) → IsAmong s (map (λ (r : Row). r.marks) t.rows)
