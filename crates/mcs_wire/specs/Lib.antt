pub mod Bags
pub mod Wires
pub mod Ends
pub mod Codes
pub mod Steps
pub mod Laws
