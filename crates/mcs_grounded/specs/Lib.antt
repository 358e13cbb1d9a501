pub mod Derivations
pub mod Parts
pub mod Views
pub mod Searches
