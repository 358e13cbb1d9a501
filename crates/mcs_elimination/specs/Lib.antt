pub mod CheapestRows
pub mod Runs
pub mod Lightest
pub mod Eliminating
