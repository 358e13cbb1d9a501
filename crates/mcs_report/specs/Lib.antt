pub mod Members
pub mod Listing
pub mod Repairs
pub mod Solutions
pub mod Cheapest
pub mod Sessions
