pub mod Adding
pub mod Answers
pub mod Flattening
pub mod Solvers
