pub mod RowOrder
pub mod Tables
pub mod Partners
pub mod Joins
pub mod Elimination
pub mod Without
pub mod Fitting
