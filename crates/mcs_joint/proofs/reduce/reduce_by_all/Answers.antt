use Rattle.mcs_joint.proofs.Reducing.{reduced-trans}
use Rattle.mcs_joint.proofs.reduce.reduce_by_all.Goals.{then-are_linked+in_ok-went, else-are_linked}
use Rattle.mcs_joint.proofs.reduce.reduce_by_all.Goals as goal

pub loop-j-preserved : goal.loop-j-preserved
loop-j-preserved c = elim c.if-are_linked.branch [
  | then-are_linked+in_ok-went w ↦ rw w.tables-is (reduced-trans c.args.level c.args.tables.now.items c.loop-j.tables.items w.reduce_by.new.tables.items c.loop-j.invariant w.in_ok-went.ensures)
  | else-are_linked w ↦ rw w.tables-is c.loop-j.invariant
]
