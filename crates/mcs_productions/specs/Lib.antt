pub mod Terminals
pub mod Productions
pub mod Readable
