use Rattle.std.proofs.Common.{◌-◌, length}
use Rattle.mcs_engine.specs.Extending.{Extends}
use Rattle.mcs_engine.specs.Lists.{list_at}
use Rattle.mcs_engine.specs.Watching.{KeepsWatches}
use Rattle.mcs_engine.proofs.WatchLemmas.{ArePassed}
use Rattle.mcs_engine.proofs.propagate.visit_list.Given as goal

abbrev pub invariant-loop-at : goal.invariant-loop-at
invariant-loop-at l = record {
  trail : Extends l.clauses l.level l.initial.trail l.trail;
  watches : KeepsWatches l.clauses l.initial.watches l.watches l.initial.trail.entries.items;
  passed : ArePassed l.clauses (list_at l.watches.lists l.list) l.trail.entries.items l.at;
}

abbrev pub decreases-loop-at : goal.decreases-loop-at
decreases-loop-at l = length (list_at l.watches.lists l.list) - l.at
