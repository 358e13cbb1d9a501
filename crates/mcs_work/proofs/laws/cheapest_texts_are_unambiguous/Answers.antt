use Rattle.mcs_work.proofs.CheapestLaws.{cheapest_text_is_one, cheapest_stages}
use Rattle.mcs_work.proofs.laws.cheapest_texts_are_unambiguous.Goals as goal

pub returns : goal.returns
returns c = record { one = cheapest_text_is_one; stages = cheapest_stages }
