pub mod CriticalLemmas
pub mod BarredLemmas
pub mod BergeLemmas
pub mod FirstLemmas
