use Rattle.mcs_faults.proofs.Unambiguous.{texts-unambiguous}
use Rattle.mcs_language.proofs.laws.texts_are_unambiguous.Goals as goal

pub returns : goal.returns
returns c = texts-unambiguous
