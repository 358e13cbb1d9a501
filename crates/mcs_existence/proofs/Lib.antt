pub mod SystemListings
pub mod Counts
