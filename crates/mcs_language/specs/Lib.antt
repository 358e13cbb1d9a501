pub mod Progress
pub mod Ready
pub mod Rules
