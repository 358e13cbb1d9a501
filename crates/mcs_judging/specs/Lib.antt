pub mod Judging
pub mod Theories
pub mod Programs
