pub mod Theories
pub mod Asked
pub mod Told
