pub mod Apart
pub mod Changed
pub mod Reduced
pub mod First
