use Rattle.mcs_base.proofs.ListingLemmas.{listing_of_sorted, numbers_sort, number_tie}
use Rattle.mcs_base.proofs.listed.list_rule_sets.Goals as goal

pub returns : goal.returns
returns c = listing_of_sorted _ _ numbers_sort _ (λ x y. number_tie x y) _ _ _ c.sort_unstable.ensures.permutation c.sort_unstable.ensures.sorted c.dedup.ensures.filtered
