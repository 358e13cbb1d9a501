use Rattle.mcs_joint.proofs.Reducing.{reduced-trans}
use Rattle.mcs_joint.proofs.reduce.reduce_back.Goals as goal

pub loop-k-preserved : goal.loop-k-preserved
loop-k-preserved c = reduced-trans c.args.level c.args.tables.now.items c.loop-k.tables.items c.reduce_by_all.new.tables.items c.loop-k.invariant c.in_ok-went.ensures
