use Rattle.mcs_sets.proofs.Lattice.{minus-lt}
use Rattle.mcs_base.proofs.set.Set.minus.Goals as goal

pub of-requires : goal.of-requires
of-requires g c = rw c.minus.ensures (minus-lt _ _ _ c.self.invariant)
