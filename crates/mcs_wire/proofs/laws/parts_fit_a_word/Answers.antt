use Rattle.mcs_wire.proofs.Rule.{fits}
use Rattle.mcs_wire.proofs.laws.parts_fit_a_word.Goals as goal

pub returns : goal.returns
returns c = fits
