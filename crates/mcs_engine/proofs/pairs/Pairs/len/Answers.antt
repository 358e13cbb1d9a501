use Rattle.std.proofs.Common.{ap, arith, length}
use Rattle.mcs_engine.proofs.PairsLemmas.{size-pairs}
use Rattle.mcs_engine.proofs.pairs.Pairs.len.Goals as goal

pub returns : goal.returns
returns c =
    let ok = c.self.inside.rest.ok.0 in
    omega (arith, c.len.ensures, size-pairs c.self.inside.none c.self.inside.rest.items, ap length c.self.view_is)
