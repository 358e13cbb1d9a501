use Rattle.mcs_existence.proofs.SystemListings.{all_states_listed}
use Rattle.mcs_existence.proofs.states_have_a_listing.Goals as goal

pub returns : goal.returns
returns c = all_states_listed
