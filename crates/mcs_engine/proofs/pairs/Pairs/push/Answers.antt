use Rattle.std.proofs.Common.{ap, arith, length}
use Rattle.mcs_engine.proofs.PairsLemmas.{size-pairs}
use Rattle.mcs_engine.proofs.pairs.Pairs.push.Goals as goal

pub invariant_of-self-2 : goal.invariant_of-self-2
invariant_of-self-2 c = omega (arith, c.push.ensures.len, size-pairs c.self.inside.none c.self.inside.rest.items, ap length c.self.view_is)
