use Rattle.mcs_base.proofs.ListingLemmas.{listing_of_sorted, states_sort}
use Rattle.mcs_base.specs.StateOrder.{state_tie}
use Rattle.mcs_base.proofs.listed.list_states.Goals as goal

pub returns : goal.returns
returns c = listing_of_sorted _ _ states_sort _ state_tie _ _ _ c.sort_unstable.ensures.permutation c.sort_unstable.ensures.sorted c.dedup.ensures.filtered
