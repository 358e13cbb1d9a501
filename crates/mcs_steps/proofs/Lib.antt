pub mod WordLemmas
pub mod StepLemmas
pub mod ChainLemmas
pub mod TraceLemmas
pub mod Judged
