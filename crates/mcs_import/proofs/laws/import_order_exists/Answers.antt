use Rattle.mcs_import.proofs.OrderLemmas.{import_order_exists}
use Rattle.mcs_import.proofs.laws.import_order_exists.Goals as goal

pub returns : goal.returns
returns c = import_order_exists
