pub mod Local
pub mod Answers
pub mod Making
pub mod Changed
pub mod Finding
pub mod Fitting
pub mod Reach
pub mod Nearest
