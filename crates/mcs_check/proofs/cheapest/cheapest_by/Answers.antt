use Rattle.std.proofs.Common.{subst}
use Rattle.mcs_system.specs.Faults.{IsValid}
use Rattle.mcs_check.proofs.cheapest.cheapest_by.Goals as goal

pub list_by-requires-clause-valid : goal.list_by-requires-clause-valid
list_by-requires-clause-valid g c = subst IsValid c.deref.ensures c.contexts.ensures.valid
