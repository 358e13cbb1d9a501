use Rattle.mcs_joint.proofs.Reducing.{reduced_set, two_apart}
use Rattle.mcs_joint.proofs.reduce.reduce_by.Goals as goal

pub semi_join-requires : goal.semi_join-requires
semi_join-requires c = two_apart c.args.tables.now.items c.args.i c.args.j c.index.result.now c.index-2.result.now c.requires.first_in_range c.requires.second_in_range c.requires.differ c.index.ensures c.index-2.ensures c.requires.apart

pub returns : goal.returns
returns c = reduced_set c.args.level c.args.tables.now.items c.args.i c.args.j c.index.result.now c.index-2.result.now c.in_ok-fewer.fewer c.requires.first_in_range c.requires.second_in_range c.requires.differ c.index.ensures c.index-2.ensures c.in_ok-fewer.ensures c.requires.apart
