pub mod Budget
pub mod Seats
pub mod Steps
pub mod Laws
