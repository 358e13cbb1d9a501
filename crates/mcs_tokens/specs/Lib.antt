pub mod Spelling
pub mod Tokens
pub mod Kinds
pub mod Laws
