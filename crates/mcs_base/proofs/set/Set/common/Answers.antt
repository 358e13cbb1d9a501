use Rattle.mcs_sets.proofs.Lattice.{common-lt}
use Rattle.mcs_base.proofs.set.Set.common.Goals as goal

pub of-requires : goal.of-requires
of-requires g c = rw c.common.ensures (common-lt _ _ _ c.self.invariant)
