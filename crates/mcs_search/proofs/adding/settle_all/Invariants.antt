use Rattle.std.proofs.Common.{◌≡◌, ◌-◌, length}
use Rattle.mcs_engine.specs.States.{KeepsLevels}
use Rattle.mcs_search.proofs.adding.settle_all.Given as goal

abbrev pub invariant-loop-state : goal.invariant-loop-state
invariant-loop-state l = record {
  state : KeepsLevels l.fn.state l.state;
  all : l.state.kept.entries ≡ length l.state.trail.entries.items;
}

abbrev pub decreases-loop-state : goal.decreases-loop-state
decreases-loop-state l = length l.state.clauses - length l.state.watches.pairs
