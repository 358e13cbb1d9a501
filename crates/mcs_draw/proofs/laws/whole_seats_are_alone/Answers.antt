use Rattle.mcs_draw.proofs.Rule.{wholes}
use Rattle.mcs_draw.proofs.laws.whole_seats_are_alone.Goals as goal

pub returns : goal.returns
returns c = wholes
