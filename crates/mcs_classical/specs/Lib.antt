pub mod Assumptions
pub mod Consequences
pub mod Models
pub mod OneProof
pub mod Given
pub mod Calls
