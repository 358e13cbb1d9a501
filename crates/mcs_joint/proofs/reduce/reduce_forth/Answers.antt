use Rattle.mcs_joint.proofs.Reducing.{reduced-trans}
use Rattle.mcs_joint.proofs.reduce.reduce_forth.Goals as goal

pub loop-i-preserved : goal.loop-i-preserved
loop-i-preserved c = reduced-trans c.args.level c.args.tables.now.items c.loop-i.tables.items c.reduce_by_all.new.tables.items c.loop-i.invariant c.in_ok-went.ensures
