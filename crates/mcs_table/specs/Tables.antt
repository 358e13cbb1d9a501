-- Tables: rows on the same variables, each with the marks that it takes.
use Rattle.std.specs.Prelude.{◌≡◌, ℕ, ◌≤◌, List, [], ◌∷◌}
use Rattle.std.specs.List.{AllByRecursion}
use Rattle.mcs_sets.specs.Sets.{union, common, size, Within, Meets}
use Rattle.mcs_base.specs.Listings.{IsAscending, IsAmong, IsListing}
use Rattle.mcs_base.specs.Partials.{IsPartial, Fits, united, restricted}
use Rattle.mcs_table.specs.declared.row.Row.{Row}
use Rattle.mcs_table.specs.RowOrder.{RowBefore}

pub record TableData : Type 0 where
  pub scope : ℕ
  pub rows : List Row

-- a row on these variables
pub record IsRowOn (scope : ℕ) (r : Row) : Type 0 where
  pub mask : r.state.mask ≡ scope
  pub partial : IsPartial r.state

-- the rows are on the variables of the scope, in order, each once
pub record IsTable (t : TableData) : Type 0 where
  pub on_scope : AllByRecursion (IsRowOn t.scope) t.rows
  pub ascending : IsAscending RowBefore t.rows

-- the row of no variables, which takes no marks
abbrev pub unit_row : Row
unit_row = record { state = record { mask = 0; values = 0 }; marks = 0 }

-- the table of no variables and its one row of no marks
abbrev pub unit_table : TableData
unit_table = record { scope = 0; rows = unit_row ∷ [] }

-- what both rows say, with the marks of both
abbrev pub united_row : Row → Row → Row
united_row x y = record { state = united x.state y.state; marks = union x.marks y.marks }

-- what the row says of the variables of a set, with all its marks
abbrev pub restricted_row : Row → ℕ → Row
restricted_row x keep = record { state = restricted x.state keep; marks = x.marks }

-- no mark of one list of rows occurs in the other
abbrev pub ShareNoMark : List Row → List Row → Type 0
ShareNoMark xs ys = (x y : Row) → IsAmong x xs → IsAmong y ys → ¬ Meets x.marks y.marks

-- the union of a row of each list, which fit, with at most so many marks
pub record IsUnion (xs ys : List Row) (level : ℕ) (r : Row) : Type 0 where
  pub first : Row
  pub second : Row
  pub in_first : IsAmong first xs
  pub in_second : IsAmong second ys
  pub fit : Fits first.state second.state
  pub is : r ≡ united_row first second
  pub few : size r.marks ≤ level

-- what one of the rows says of the variables of a set
pub record IsRestriction (xs : List Row) (keep : ℕ) (r : Row) : Type 0 where
  pub row : Row
  pub among : IsAmong row xs
  pub is : r ≡ restricted_row row keep

-- one for which P holds, and no other of the same state for which P holds has its marks within these
pub record IsMinimalRow (P : Row → Type 0) (r : Row) : Type 0 where
  pub one : P r
  pub least : (s : Row) → P s → s.state ≡ r.state → Within s.marks r.marks → s.marks ≡ r.marks

-- one of the rows has the same state, and its marks lie within these
pub record IsCovered (xs : List Row) (r : Row) : Type 0 where
  pub by : Row
  pub among : IsAmong by xs
  pub state : by.state ≡ r.state
  pub within : Within by.marks r.marks

-- t has, for each state, exactly the minimal unions
pub record IsJoin (a b : TableData) (level : ℕ) (t : TableData) : Type 0 where
  pub scope : t.scope ≡ union a.scope b.scope
  pub rows : IsListing (IsMinimalRow (IsUnion a.rows b.rows level)) RowBefore t.rows

-- t has, for each state on the variables that are kept, exactly the minimal restrictions
pub record IsForgetting (a : TableData) (keep : ℕ) (t : TableData) : Type 0 where
  pub scope : t.scope ≡ common a.scope keep
  pub rows : IsListing (IsMinimalRow (IsRestriction a.rows keep)) RowBefore t.rows

-- one of the rows fits it, and both together have at most so many marks
pub record HasPartner (xs : List Row) (level : ℕ) (r : Row) : Type 0 where
  pub partner : Row
  pub among : IsAmong partner xs
  pub fit : Fits r.state partner.state
  pub few : size (union r.marks partner.marks) ≤ level

-- t has exactly the rows of a that have a partner in b
pub record IsSemiJoin (a b : TableData) (level : ℕ) (t : TableData) : Type 0 where
  pub scope : t.scope ≡ a.scope
  pub rows : IsListing (λ r. IsAmong r a.rows × HasPartner b.rows level r) RowBefore t.rows

-- Q has some of the rows of P, and for each of these one of its state with marks within its marks
pub record Covers (Q P : Row → Type 0) : Type 0 where
  pub from : (r : Row) → Q r → P r
  pub below : (r : Row) → P r → (m : Row) × Q m × (m.state ≡ r.state) × Within m.marks r.marks
