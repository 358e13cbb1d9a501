pub mod Plans
pub mod Reach
pub mod States
pub mod Near
pub mod Fewest
pub mod Laws
