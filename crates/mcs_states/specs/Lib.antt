pub mod Oracles
pub mod Evaluators
pub mod Calls
pub mod Codes
pub mod First
