pub mod Laws
pub mod Free
pub mod Examples
