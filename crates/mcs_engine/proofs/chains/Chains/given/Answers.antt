use Rattle.std.proofs.Common.{ap, arith}
use Rattle.mcs_engine.specs.Stores.{given_count}
use Rattle.mcs_engine.proofs.ChainLemmas.{learnt-bound, spread-given}
use Rattle.mcs_engine.proofs.chains.Chains.given.Goals as goal

pub overflow_sub-result : goal.overflow_sub-result
overflow_sub-result c =
    let s = c.self.inside in
    let ok = s.learnt.ok.0 in
    omega (arith, c.len.ensures, learnt-bound 0 s.count s.learnt.items s.rows c.self.invariant.1)

pub returns : goal.returns
returns c =
    let s = c.self.inside in
    let ok = s.learnt.ok.0 in
    omega (arith, c.len.ensures, spread-given 0 s.count s.learnt.items s.rows c.self.invariant.1, ap given_count c.self.view_is)
