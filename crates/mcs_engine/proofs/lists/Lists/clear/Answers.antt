use Rattle.mcs_engine.proofs.ListsLemmas.{list-none}
use Rattle.mcs_engine.proofs.lists.Lists.clear.Goals as goal

pub returns : goal.returns
returns c = list-none _ c.truncate.ensures.items
