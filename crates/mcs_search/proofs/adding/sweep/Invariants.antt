use Rattle.mcs_engine.specs.States.{KeepsLevels}
use Rattle.mcs_search.proofs.adding.sweep.Given as goal

abbrev pub invariant-loop-index : goal.invariant-loop-index
invariant-loop-index l = KeepsLevels l.fn.state l.state

abbrev pub decreases-loop-index : goal.decreases-loop-index
decreases-loop-index l = l.index
