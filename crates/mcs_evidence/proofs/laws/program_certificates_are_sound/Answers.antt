use Rattle.mcs_evidence.proofs.AnswerSets.{program_sound}
use Rattle.mcs_evidence.proofs.laws.program_certificates_are_sound.Goals as goal

pub returns : goal.returns
returns c = program_sound
