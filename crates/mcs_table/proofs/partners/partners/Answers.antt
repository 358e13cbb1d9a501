use Rattle.mcs_table.specs.Tables.{unit_row}
use Rattle.mcs_table.proofs.PartnerLemmas.{ends_later, partners_are}
use Rattle.mcs_table.proofs.partners.partners.Goals as goal

pub slice_bounds-result-count : goal.slice_bounds-result-count
slice_bounds-result-count c = ends_later c.args.scope c.args.shared c.args.room c.args.sorted.now _ _ c.end_below-from.ensures.bound c.end_below-from.ensures.point c.end_up_to-to.ensures.point unit_row

pub slice_bounds-result-start : goal.slice_bounds-result-start
slice_bounds-result-start c = ends_later c.args.scope c.args.shared c.args.room c.args.sorted.now _ _ c.end_below-from.ensures.bound c.end_below-from.ensures.point c.end_up_to-to.ensures.point unit_row

pub returns : goal.returns
returns c = partners_are c.args.scope c.args.shared c.args.room c.args.sorted.now _ _ c.end_below-from.ensures.bound c.end_below-from.ensures.point c.end_up_to-to.ensures.point
