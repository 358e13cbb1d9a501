use Rattle.mcs_sets.proofs.SetLemmas.{single-lt}
use Rattle.mcs_base.proofs.set.Set.one.Goals as goal

pub of-requires : goal.of-requires
of-requires g c = rw c.one.ensures (single-lt _ _ c.requires)
