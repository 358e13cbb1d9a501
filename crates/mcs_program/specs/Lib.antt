pub mod Searches
pub mod Clauses
pub mod Placing
pub mod PlacingProofs
pub mod Listings
pub mod Once
pub mod Splitting
pub mod Asked
