pub mod Weights
pub mod Rule
pub mod Steps
pub mod EndLemmas
pub mod Settling
pub mod Sending
