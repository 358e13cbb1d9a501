use Rattle.mcs_cnf.proofs.EntailmentLemmas.{shown_follow, classical_sound}
use Rattle.mcs_cnf.proofs.laws.classical_certificates_are_sound.Goals as goal

pub returns : goal.returns
returns c = record { shown = shown_follow; listed = classical_sound }
