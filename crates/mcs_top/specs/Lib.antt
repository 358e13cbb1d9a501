pub mod TaskTrails
pub mod Meaning
pub mod Examining
pub mod Scripts
pub mod Promise
pub mod Programs
pub mod Trails
pub mod Evaluating
