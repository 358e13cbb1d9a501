pub mod Told
pub mod Searches
pub mod Assignments
pub mod Keeping
pub mod Known
pub mod SearchProofs
pub mod Asked
pub mod Nodes
