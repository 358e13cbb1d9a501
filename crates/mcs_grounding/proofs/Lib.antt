pub mod Numbers
pub mod DeniedLemmas
pub mod OrderLemmas
