-- Tables of different contexts have no mark in common.
use Rattle.std.specs.Prelude.{◌≡◌, ℕ, ◌<◌, List, length, slice_index_or}
use Rattle.mcs_table.specs.Tables.{TableData, ShareNoMark, unit_table}

-- of each two of the tables, no mark of the one occurs in the other
pub record EachApart (tables : List TableData) : Type 0 where
  pub at : (i j : ℕ) → i < length tables → j < length tables → ¬ (i ≡ j) → ShareNoMark (slice_index_or tables i unit_table).rows (slice_index_or tables j unit_table).rows
