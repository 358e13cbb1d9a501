pub mod Generated
pub mod Laws
