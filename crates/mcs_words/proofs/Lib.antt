pub mod KindLemmas
pub mod ReadingLemmas
pub mod JobLemmas
pub mod RowLemmas
pub mod WalkLemmas
