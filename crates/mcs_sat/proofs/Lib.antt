pub mod UnitRunLemmas
pub mod SolverLemmas
pub mod AssertingLemmas
pub mod ModelLemmas
pub mod FollowLemmas
pub mod SeenLemmas
