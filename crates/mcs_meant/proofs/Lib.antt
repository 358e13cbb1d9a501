pub mod MeaningLemmas
pub mod LiteralLemmas
pub mod GateLemmas
