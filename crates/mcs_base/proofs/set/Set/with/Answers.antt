use Rattle.mcs_sets.proofs.Lattice.{with-lt}
use Rattle.mcs_base.proofs.set.Set.with.Goals as goal

pub of-requires : goal.of-requires
of-requires g c = rw c.with.ensures (with-lt _ _ _ c.self.invariant c.requires)
