pub use Rattle.mcs_base.specs.Listings
pub mod Transversals
