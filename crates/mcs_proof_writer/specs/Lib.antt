pub mod Proving
pub mod Gathered
