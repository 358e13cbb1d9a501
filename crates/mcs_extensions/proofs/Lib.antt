pub mod OrderLemmas
pub mod VerdictLemmas
pub mod JudgingLemmas
