use Rattle.std.proofs.Common.{◌-◌, length}
use Rattle.mcs_engine.specs.States.{KeepsLiterals}
use Rattle.mcs_search.proofs.adding.attach.Given as goal

abbrev pub invariant-loop-state : goal.invariant-loop-state
invariant-loop-state l = KeepsLiterals l.fn.state l.state

abbrev pub decreases-loop-state : goal.decreases-loop-state
decreases-loop-state l = length l.state.clauses - length l.state.watches.pairs
