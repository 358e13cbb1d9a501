pub mod Cheapest
pub mod Grounded
pub mod Tasks
pub mod Work
pub mod Course
pub mod Extents
pub mod Printed
