pub mod General
pub mod ShownLemmas
