use Rattle.mcs_base.proofs.Searched.{found_listed}
use Rattle.mcs_import.proofs.near.is_listed.Goals as goal

pub returns : goal.returns
returns c = found_listed c.args.sets.now c.args.set c.requires c.binary_search.result c.binary_search.ensures.position c.is_ok.result c.is_ok.ensures.value
