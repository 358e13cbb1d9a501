pub mod Defaults
pub mod Theories
pub mod Programs
pub mod Supports
pub mod Laws
pub mod Pushing
pub mod Added
pub mod OneProof
