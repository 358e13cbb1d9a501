pub mod SystemSolvers
pub mod KindLemmas
pub mod ViewLemmas
pub mod FactLemmas
pub mod KeepingLemmas
pub mod Sending
