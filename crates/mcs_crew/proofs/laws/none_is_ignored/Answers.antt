use Rattle.mcs_crew.proofs.LoadSteps as lemmas
use Rattle.mcs_crew.proofs.laws.none_is_ignored.Goals as goal

pub returns : goal.returns
returns c = lemmas.none_is_ignored
