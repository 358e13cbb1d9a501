pub mod Kinds
pub mod Certificates
pub mod Laws
