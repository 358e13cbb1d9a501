pub mod JobLemmas
pub mod PlainLemmas
pub mod WorkLemmas
pub mod WorkedLemmas
pub mod LineLemmas
pub mod DeviceLemmas
