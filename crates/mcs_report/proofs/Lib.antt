pub mod LineLemmas
pub mod ListingLaws
pub mod RepairLemmas
pub mod SolutionLemmas
pub mod SolutionLaws
