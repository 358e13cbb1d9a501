pub mod Totals
pub mod Rule
pub mod Steps
