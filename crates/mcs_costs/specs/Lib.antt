pub mod Costs
pub mod Laws
pub mod Settling
pub mod Worked
