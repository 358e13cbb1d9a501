use Rattle.mcs_evidence.proofs.DefaultCertificates.{defaults_sound}
use Rattle.mcs_evidence.proofs.laws.default_certificates_are_sound.Goals as goal

pub returns : goal.returns
returns c = defaults_sound
