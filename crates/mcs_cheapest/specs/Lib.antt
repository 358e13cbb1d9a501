pub mod Found
pub mod Searching
pub mod Laws
pub mod Least
