pub mod Kinds
pub mod Solvers
pub mod Questions
