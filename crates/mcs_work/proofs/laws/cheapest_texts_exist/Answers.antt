use Rattle.mcs_work.proofs.CheapestLaws.{cheapest_texts}
use Rattle.mcs_work.proofs.laws.cheapest_texts_exist.Goals as goal

pub returns : goal.returns
returns c = cheapest_texts
