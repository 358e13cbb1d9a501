use Rattle.mcs_cnf.proofs.EntailmentLemmas.{sound}
use Rattle.mcs_cnf.proofs.laws.entailments_are_sound.Goals as goal

pub returns : goal.returns
returns c = sound
