use Rattle.mcs_default.proofs.KnownLemmas.{known_nothing}
use Rattle.mcs_default.proofs.known.Known.nothing.Goals as goal

pub returns-clause-right : goal.returns-clause-right
returns-clause-right c items = known_nothing items _ c.empty.ensures c.empty-2.ensures c.empty-3.ensures c.empty-4.ensures
