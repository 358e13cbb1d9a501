pub mod LineLemmas
pub mod FaultLaws
pub mod PlainTexts
pub mod FreeTexts
mod ListingLines
pub mod ListingParts
pub mod TraceShapes
pub mod DefaultShapes
pub mod ProgramShapes
pub mod ShapeLaws
