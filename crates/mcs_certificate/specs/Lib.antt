pub mod OneProof
pub mod Questions
