pub mod Questions
pub mod Answers
pub mod Readers
pub mod Listings
pub mod Whole
pub mod Keeping
pub mod Readings
