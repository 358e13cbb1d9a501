use Rattle.mcs_base.proofs.ListingLemmas.{listing_of_sorted, pairs_sort}
use Rattle.mcs_base.specs.PairOrder.{pair_tie}
use Rattle.mcs_base.proofs.listed.list_pairs.Goals as goal

pub returns : goal.returns
returns c = listing_of_sorted _ _ pairs_sort _ pair_tie _ _ _ c.sort_unstable.ensures.permutation c.sort_unstable.ensures.sorted c.dedup.ensures.filtered
