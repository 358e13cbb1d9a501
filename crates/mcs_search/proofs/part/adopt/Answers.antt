use Rattle.mcs_engine.proofs.StoreLemmas.{later-ground, later-then}
use Rattle.mcs_search.proofs.part.adopt.Goals as goal

pub loop-alloc-preserved : goal.loop-alloc-preserved
loop-alloc-preserved c = record {
  later = later-then c.args.state.now c.loop-alloc.state c.adopt_next.new.state c.loop-alloc.invariant.later c.adopt_next.ensures.later.later;
  base = c.adopt_next.ensures.later.base;
  part = c.in_ok-adopt_next.ensures.part;
}

pub returns-in_err-adopt_next-clause-later : goal.returns-in_err-adopt_next-clause-later
returns-in_err-adopt_next-clause-later c = later-ground c.args.state.now c.loop-alloc.state c.adopt_next.new.state c.loop-alloc.invariant.later c.adopt_next.ensures.later
