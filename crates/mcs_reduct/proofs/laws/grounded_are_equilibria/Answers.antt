use Rattle.mcs_reduct.proofs.GroundedLaws.{grounded_equilibria, grounded_states}
use Rattle.mcs_reduct.proofs.laws.grounded_are_equilibria.Goals as goal

pub returns : goal.returns
returns c = record { states = grounded_equilibria; projections = grounded_states }
