pub mod Separated
pub mod Writes
