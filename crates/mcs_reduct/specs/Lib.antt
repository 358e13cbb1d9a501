pub mod Plain
pub mod Reducts
pub mod Grounded
pub mod Shown
pub mod Examples
pub mod Laws
