use Rattle.std.proofs.Common.{ap, arith, length}
use Rattle.mcs_engine.proofs.ChainLemmas.{length-spread}
use Rattle.mcs_engine.proofs.chains.Chains.len.Goals as goal

pub returns : goal.returns
returns c =
    let s = c.self.inside in
    omega (arith, length-spread 0 s.count s.learnt.items s.rows c.self.invariant.1, ap length c.self.view_is)
