use Rattle.mcs_sets.proofs.Lattice.{none-union}
use Rattle.mcs_table.proofs.ApartLemmas.{marks_more, marks_end}
use Rattle.mcs_table.proofs.joining.all_marks.Goals as goal

pub loop-row-init : goal.loop-row-init
loop-row-init c = rw c.empty-marks.ensures (none-union _)

pub loop-row-preserved : goal.loop-row-preserved
loop-row-preserved c = rw c.union-marks.ensures (marks_more c.args.rows.now c.loop-row.row-index c.row-item.result c.loop-row.marks c.loop-row-test.true c.row-item.is c.loop-row.invariant)

pub returns : goal.returns
returns c = marks_end c.args.rows.now c.loop-row.row-index c.loop-row.marks c.loop-row-test.false c.loop-row.invariant
