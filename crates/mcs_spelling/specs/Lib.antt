pub mod Parts
pub mod Words
pub mod Lines
pub mod Spelled
