pub mod Clauses
pub mod Resolution
pub mod Traces
