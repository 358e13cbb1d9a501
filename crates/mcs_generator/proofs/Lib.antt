pub mod General
pub mod NameLemmas
pub mod PartLemmas
pub mod FaultLemmas
