use Rattle.mcs_sets.proofs.SetLemmas.{size-below}
use Rattle.mcs_base.proofs.set.Set.count.Goals as goal

pub returns-clause-few : goal.returns-clause-few
returns-clause-few g c = rw c.count.ensures.number (size-below _ _ c.self.invariant)
