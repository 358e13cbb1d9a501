use Rattle.mcs_work.proofs.GroundedLaws.{one_text, texts_exist, stages_are_fronts}
use Rattle.mcs_work.proofs.laws.grounded_texts_are_unambiguous.Goals as goal

pub returns : goal.returns
returns c = record { one = one_text; exist = texts_exist; stages = stages_are_fronts }
