pub mod FoundLemmas
pub mod CourseLemmas
pub mod BelowLemmas
pub mod ShownLemmas
