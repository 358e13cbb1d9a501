pub mod Grammar
pub mod Reads
pub mod Operands
pub mod Parts
pub mod Fronts
pub mod Laws
pub mod Worked
pub mod Prompt
