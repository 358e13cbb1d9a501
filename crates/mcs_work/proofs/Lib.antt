pub mod StateLemmas
pub mod StopLemmas
pub mod CourseLemmas
pub mod LowestLemmas
pub mod GroundedLaws
pub mod CheapestLemmas
pub mod CheapestLaws
