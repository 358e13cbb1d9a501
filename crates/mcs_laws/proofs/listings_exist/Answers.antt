use Rattle.mcs_laws.proofs.Existence.{classical_states_listed, consistency_is_listed}
use Rattle.mcs_laws.proofs.listings_exist.Goals as goal

pub returns : goal.returns
returns c = record { classical = classical_states_listed; consistent = consistency_is_listed }
