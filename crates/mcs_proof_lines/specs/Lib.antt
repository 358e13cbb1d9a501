pub mod Walks
pub mod Verdicts
pub mod Programs
pub mod Readings
