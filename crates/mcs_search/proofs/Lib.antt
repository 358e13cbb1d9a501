pub mod RunLemmas
pub mod WorkLemmas
pub mod SearchLemmas
pub mod BackLemmas
pub mod CutLemmas
pub mod NumberingLemmas
pub mod PartLemmas
