use Rattle.std.proofs.Common.{ap, arith, length, length-append, map}
use Rattle.mcs_trace.specs.Traces.{Inference}
use Rattle.mcs_engine.proofs.StoreLemmas.{later-ground}
use Rattle.mcs_sat.proofs.flatten.flatten_each.Goals as goal

pub returns-in_err-flatten-clause-later : goal.returns-in_err-flatten-clause-later
returns-in_err-flatten-clause-later c = later-ground c.args.state.now c.loop-index.state c.flatten.new.state c.loop-index.invariant.later.later c.flatten.ensures.later

pub loop-index-preserved : goal.loop-index-preserved
loop-index-preserved c =
    let later = c.flatten.ensures.later in
    let before = c.loop-index.invariant.longer in
    record {
      later = later-ground c.args.state.now c.loop-index.state c.flatten.new.state c.loop-index.invariant.later.later later;
      full = c.in_ok-flatten.ensures.full;
      longer = omega (arith, ap length later.later.clauses, length-append c.loop-index.state.clauses (map (λ (i : Inference). i.clause) later.later.more));
    }
