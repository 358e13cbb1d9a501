use Rattle.mcs_session.proofs.WorkedKeys.{first_keys, later_keys, key_texts}
use Rattle.mcs_session.proofs.laws.worked_keys.Goals as goal

pub returns : goal.returns
returns c = record { first = first_keys; later = later_keys; texts = key_texts }
