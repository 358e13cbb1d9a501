use Rattle.mcs_base.proofs.Written.{map-slice_set}
use Rattle.mcs_node.specs.Letters.{shared_states}
use Rattle.mcs_node.proofs.receiving.keep.Goals as goal

pub returns-clause-told : goal.returns-clause-told
returns-clause-told c = map-slice_set shared_states c.args.round.now.told.items c.args.place c.args.states
