use Rattle.std.proofs.Common.{◌≡◌, sym, ap, ◌∙◌, subst, arith, length}
use Rattle.mcs_engine.specs.Learning.{AreImplied}
use Rattle.mcs_engine.proofs.LevelLemmas.{implied-none}
use Rattle.mcs_search.proofs.trace.trace_of.Goals as goal

pub analyse-requires-clause-implied : goal.analyse-requires-clause-implied
analyse-requires-clause-implied c =
    let s = c.args.state.now in
    let size : length s.trail.entries.items ≡ c.len-none.result = (let ok = s.trail.entries.ok.0 in omega (arith, c.len-none.ensures)) in
    subst (AreImplied s.trail.entries.items) size (implied-none s.trail.entries.items (sym c.requires.ground.state.starts.count ∙ ap length c.requires.ground.base))
