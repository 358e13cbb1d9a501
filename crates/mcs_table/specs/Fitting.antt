-- Rows and states that fit rows of other tables.
use Rattle.std.specs.Prelude.{◌≡◌, ◌↔◌, ℕ, List, [], ◌∷◌, ◌++◌}
use Rattle.std.specs.List.{AllByRecursion}
use Rattle.mcs_sets.specs.Sets.{common, Within}
use Rattle.mcs_base.specs.Listings.{IsAmong}
use Rattle.mcs_base.specs.Partials.{PartialState, Fits}
use Rattle.mcs_table.specs.declared.row.Row.{Row}
use Rattle.mcs_table.specs.Tables.{TableData, IsTable, IsCovered}

-- v is the projection of the state of one of the rows onto a set of variables
abbrev pub IsRowProjection : List Row → ℕ → ℕ → Type 0
IsRowProjection rows set v = (r : Row) × IsAmong r rows × (v ≡ common r.state.values set)

-- one of the rows fits
abbrev pub FitsSome : PartialState → List Row → Type 0
FitsSome s rows = (r : Row) × IsAmong r rows × Fits s r.state

-- a row of each of the tables fits
abbrev pub FitsEach : PartialState → List TableData → Type 0
FitsEach s tables = AllByRecursion (λ t. FitsSome s t.rows) tables

-- the projection of a state onto a set of variables, as a partial state
abbrev pub part_on : ℕ → ℕ → PartialState
part_on set s = record { mask = set; values = common s set }

-- some of the states are left, and each that fits, on the variables of the set, a row of each of the tables
pub record AreFittingStates (set : ℕ) (tables : List TableData) (old new : List ℕ) : Type 0 where
  pub from : (s : ℕ) → IsAmong s new → IsAmong s old
  pub fitting : (s : ℕ) → IsAmong s old → FitsEach (part_on set s) tables → IsAmong s new

-- u has minimal ones of the rows of t, and for each row that fits a row of each of the others one of its state with marks within its marks
pub record IsFitting (others : List TableData) (t u : TableData) : Type 0 where
  pub scope : u.scope ≡ t.scope
  pub table : IsTable u
  pub from : (r : Row) → IsAmong r u.rows → IsAmong r t.rows
  pub below : (r : Row) → IsAmong r t.rows → FitsEach r.state others → IsCovered u.rows r
  pub least : (r s : Row) → IsAmong r u.rows → IsAmong s u.rows → s.state ≡ r.state → Within s.marks r.marks → s.marks ≡ r.marks

-- each of the tables is so made of one of the first ones, with respect to those before it
abbrev pub AreFittingAfter : List TableData → List TableData → List TableData → Type 0
AreFittingAfter before [] [] = Unit {0}
AreFittingAfter before [] (u ∷ us) = ⊥
AreFittingAfter before (t ∷ ts) [] = ⊥
AreFittingAfter before (t ∷ ts) (u ∷ us) = IsFitting before t u × AreFittingAfter (before ++ (u ∷ [])) ts us

-- ---- a law
-- Of a table of two rows of one state, one of which has fewer marks, all within the other's, just the one with fewer marks is left where the state fits a row of each of the others. A table with neither row, with both, or with the other one alone is none that fits.
abbrev pub FittingTablesAreMinimal : Type 0
FittingTablesAreMinimal = (others : List TableData) (t u : TableData) (s : PartialState) (few many : ℕ)
    → t.rows ≡ record { state = s; marks = few } ∷ record { state = s; marks = many } ∷ [] → Within few many → ¬ (few ≡ many) → FitsEach s others → IsFitting others t u
    → (r : Row) → IsAmong r u.rows ↔ (r ≡ record { state = s; marks = few })
