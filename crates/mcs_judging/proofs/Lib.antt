pub mod Readings
pub mod SoFar
pub mod Ways
pub mod Places
pub mod AbsenceLemmas
pub mod Orders
pub mod VerdictLemmas
pub mod ProgramLemmas
