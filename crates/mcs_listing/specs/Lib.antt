pub mod Jobs
pub mod Endings
pub mod Texts
pub mod Listings
pub mod Working
