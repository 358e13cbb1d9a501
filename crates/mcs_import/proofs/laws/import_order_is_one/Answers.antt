use Rattle.mcs_import.proofs.OrderLemmas.{import_order_is_one}
use Rattle.mcs_import.proofs.laws.import_order_is_one.Goals as goal

pub returns : goal.returns
returns c = import_order_is_one
