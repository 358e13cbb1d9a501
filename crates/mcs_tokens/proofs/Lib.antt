pub mod Tables
pub mod Gaps
pub mod Numbers
pub mod TokenLemmas
pub mod KindLemmas
pub mod Unique
