-- Steps of loops over plain data.
use Rattle.mcs_sets.proofs.SetLemmas.{such_that-more, such_that-none}
pub use Rattle.mcs_base.proofs.Lists.{slice_get-map_at as slice_get-map}

pub ruleset loops = (such_that-more, such_that-none, slice_get-map)
