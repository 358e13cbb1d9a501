pub mod GatheringLemmas
pub mod WritingLemmas
