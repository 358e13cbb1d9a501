-- What a pair of sets of rules makes of the tables of the contexts.
pub use Rattle.mcs_rows.specs.Changed.{applicable_into, acting_into, HasMarksOf, IsChangedTable, AreEachChanged, AreChangedTables, AreChangedAt}
