use Rattle.mcs_joint.proofs.Reducing.{reduced-trans}
use Rattle.mcs_joint.proofs.reduce.reduce_each.Goals as goal

pub returns : goal.returns
returns c = reduced-trans c.args.level c.args.tables.now.items c.reduce_forth.new.tables.items c.reduce_back.new.tables.items c.in_ok-some.ensures c.in_ok-more.ensures
