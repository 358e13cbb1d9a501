use Rattle.mcs_editing.proofs.SessionTexts.{texts_exist}
use Rattle.mcs_editing.proofs.laws.session_texts_exist.Goals as goal

pub returns : goal.returns
returns c = texts_exist
