pub mod Certified
pub mod Keeping
