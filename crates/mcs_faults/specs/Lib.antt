pub mod Names
pub mod Watching
pub mod Told
