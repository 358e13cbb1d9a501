-- Several tables joined one after the other, and what the laws say of it.
use Rattle.std.specs.Prelude.{◌≡◌, ℕ, ◌≤◌, List, [], ◌∷◌}
use Rattle.std.specs.List.{AllByRecursion, AllZip}
use Rattle.std.specs.List.Sorted.{IsPermutation}
use Rattle.mcs_sets.specs.Sets.{union, common, size, Within}
use Rattle.mcs_base.specs.Listings.{IsAmong, IsListing}
use Rattle.mcs_base.specs.Partials.{Fits}
use Rattle.mcs_table.specs.declared.row.Row.{Row}
use Rattle.mcs_table.specs.RowOrder.{RowBefore}
use Rattle.mcs_table.specs.Tables.{TableData, IsTable, ShareNoMark, IsMinimalRow, IsJoin, IsForgetting, unit_table}

-- t is the join, at one level, of the table and the others one after the other
abbrev pub JoinsFrom : ℕ → TableData → List TableData → TableData → Type 0
JoinsFrom level from [] t = t ≡ from
JoinsFrom level from (a ∷ rest) t = (next : TableData) × IsJoin from a level next × JoinsFrom level next rest t

-- beginning with the table of no variables
abbrev pub JoinsTo : ℕ → List TableData → TableData → Type 0
JoinsTo level tables t = JoinsFrom level unit_table tables t

-- what is in some of the sets that f gives
abbrev pub union_of : {A : Type 0} → (A → ℕ) → List A → ℕ
union_of f [] = 0
union_of f (x ∷ xs) = union (f x) (union_of f xs)

-- what all of the rows say, with the marks of all
abbrev pub united_rows : List Row → Row
united_rows rs = record { state = record { mask = union_of (λ (r : Row). r.state.mask) rs; values = union_of (λ (r : Row). r.state.values) rs }; marks = union_of (λ (r : Row). r.marks) rs }

-- each two of the rows fit
abbrev pub FitTogether : List Row → Type 0
FitTogether rs = (x y : Row) → IsAmong x rs → IsAmong y rs → Fits x.state y.state

-- the union of one row of each table, which fit all together, with at most so many marks
pub record IsJointRow (level : ℕ) (tables : List TableData) (r : Row) : Type 0 where
  pub parts : List Row
  pub of_tables : AllZip (λ (p : Row) (t : TableData). IsAmong p t.rows) parts tables
  pub fit : FitTogether parts
  pub is : r ≡ united_rows parts
  pub few : size r.marks ≤ level

-- t has, for each state, exactly the minimal ones of these
pub record IsJointTable (level : ℕ) (tables : List TableData) (t : TableData) : Type 0 where
  pub scope : t.scope ≡ union_of (λ (a : TableData). a.scope) tables
  pub rows : IsListing (IsMinimalRow (IsJointRow level tables)) RowBefore t.rows

-- ---- the laws
-- tables joined one after the other have the minimal unions of one row of each
abbrev pub JoinsAreMinimalUnions : Type 0
JoinsAreMinimalUnions = (level : ℕ) (tables : List TableData) (t : TableData) → AllByRecursion IsTable tables → JoinsTo level tables t → IsJointTable level tables t

-- there is such a join, and it is a table
abbrev pub JoinsExist : Type 0
JoinsExist = (level : ℕ) (tables : List TableData) → AllByRecursion IsTable tables → (t : TableData) × IsTable t × JoinsTo level tables t

-- in whichever order they are joined
abbrev pub JoinsIgnoreOrder : Type 0
JoinsIgnoreOrder = (level : ℕ) (tables others : List TableData) (t u : TableData) → AllByRecursion IsTable tables → IsPermutation tables others → JoinsTo level tables t → JoinsTo level others u → t ≡ u

-- a table with which none of them has a mark in common has none in common with their join
abbrev pub JoinsStayApart : Type 0
JoinsStayApart = (level : ℕ) (tables : List TableData) (t c : TableData) → JoinsTo level tables t → AllByRecursion (λ (a : TableData). ShareNoMark a.rows c.rows) tables → ShareNoMark t.rows c.rows

-- where all of b's variables are kept, joining with b after forgetting is forgetting after joining with b
abbrev pub ForgettingCommutes : Type 0
ForgettingCommutes = (a b f t j u : TableData) (keep level : ℕ) → IsTable b → Within b.scope keep
    → IsForgetting a keep f → IsJoin f b level t → IsJoin a b level j → IsForgetting j keep u → t ≡ u

-- there is a table without the variables that are not kept, and it is one of rows in order
abbrev pub ForgettingExists : Type 0
ForgettingExists = (a : TableData) (keep : ℕ) → IsTable a → (f : TableData) × IsTable f × IsForgetting a keep f

-- and only one
abbrev pub ForgettingIsOne : Type 0
ForgettingIsOne = (a f g : TableData) (keep : ℕ) → IsForgetting a keep f → IsForgetting a keep g → f ≡ g

-- forgetting twice is forgetting once, with what is kept both times
abbrev pub ForgettingTwiceIsOnce : Type 0
ForgettingTwiceIsOnce = (a f g : TableData) (keep later : ℕ) → IsForgetting a keep f → IsForgetting f later g → IsForgetting a (common keep later) g

-- a table with which a has no mark in common has none in common with what forgetting leaves of a
abbrev pub ForgettingStaysApart : Type 0
ForgettingStaysApart = (a f c : TableData) (keep : ℕ) → IsForgetting a keep f → ShareNoMark a.rows c.rows → ShareNoMark f.rows c.rows
