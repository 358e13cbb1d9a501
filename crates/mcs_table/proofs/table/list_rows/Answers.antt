use Rattle.mcs_base.proofs.ListingLemmas.{listing_of_sorted}
use Rattle.mcs_table.specs.RowOrder.{row_tie}
use Rattle.mcs_table.proofs.OrderLemmas.{rows_sort}
use Rattle.mcs_table.proofs.table.list_rows.Goals as goal

pub returns : goal.returns
returns c = listing_of_sorted _ _ rows_sort _ row_tie _ _ _ c.sort_unstable.ensures.permutation c.sort_unstable.ensures.sorted c.dedup.ensures.filtered
