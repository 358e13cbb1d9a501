pub mod OrderLemmas
pub mod ClashLemmas
pub mod JoinLemmas
pub mod ResolventLemmas
pub mod TraceLemmas
pub mod StepLemmas
pub mod InsertLemmas
