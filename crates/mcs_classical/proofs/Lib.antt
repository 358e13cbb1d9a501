pub mod AssumptionLemmas
pub mod ConsequenceLemmas
pub mod RefutingLemmas
pub mod ModelLemmas
pub mod OutputLemmas
