pub mod Causes
pub mod CallLemmas
pub mod FirstLemmas
