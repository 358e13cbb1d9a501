pub mod Meanings
pub mod Literals
