use Rattle.mcs_sets.proofs.SetLemmas.{members-below, size-below}
use Rattle.mcs_base.proofs.set.Set.members.Goals as goal

pub returns-clause-below : goal.returns-clause-below
returns-clause-below g c = rw c.members.ensures (members-below _ _ c.self.invariant)

pub returns-clause-few : goal.returns-clause-few
returns-clause-few g c = rw c.members.ensures (size-below _ _ c.self.invariant)
