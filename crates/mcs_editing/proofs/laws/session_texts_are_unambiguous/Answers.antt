use Rattle.mcs_editing.proofs.SessionTexts.{one_text, stages_are_fronts}
use Rattle.mcs_editing.proofs.laws.session_texts_are_unambiguous.Goals as goal

pub returns : goal.returns
returns c = record { one = one_text; stages = stages_are_fronts }
