pub mod CountLemmas
pub mod EndLemmas
pub mod SearchLemmas
pub mod FoundLemmas
pub mod ListedLaws
pub mod LeastLemmas
pub mod ShowingLemmas
