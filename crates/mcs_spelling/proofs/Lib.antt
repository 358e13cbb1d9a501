pub mod ClauseTests
pub mod NumberTexts
pub mod PlaceTexts
pub mod LiteralTexts
pub mod SetTexts
