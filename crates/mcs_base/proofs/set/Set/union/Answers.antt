use Rattle.mcs_sets.proofs.SetLemmas.{union-lt}
use Rattle.mcs_base.proofs.set.Set.union.Goals as goal

pub of-requires : goal.of-requires
of-requires g c = rw c.union.ensures (union-lt _ _ _ c.self.invariant c.other.invariant)
