use Rattle.mcs_reduct.proofs.Decided.{grounded_listed}
use Rattle.mcs_reduct.proofs.laws.grounded_equilibria_have_a_listing.Goals as goal

pub returns : goal.returns
returns c = grounded_listed
