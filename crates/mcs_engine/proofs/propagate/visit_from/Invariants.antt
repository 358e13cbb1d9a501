use Rattle.std.proofs.Common.{◌≤◌, ◌-◌, ℕ, length}
use Rattle.mcs_engine.specs.Extending.{Extends}
use Rattle.mcs_engine.specs.Watching.{IsReached, KeepsWatches}
use Rattle.mcs_engine.proofs.propagate.visit_from.Given as goal

abbrev pub invariant-loop-from : goal.invariant-loop-from
invariant-loop-from l = record {
  trail : Extends l.clauses l.level l.initial.trail l.trail;
  watches : KeepsWatches l.clauses l.initial.watches l.watches l.initial.trail.entries.items;
  bound : l.from ≤ length l.trail.entries.items;
  now : (settled : ℕ) → IsReached l.clauses l.initial.watches l.initial.trail.entries.items (record { entries = length l.initial.trail.entries.items; visited = l.initial.from; settled = settled })
      → IsReached l.clauses l.watches l.trail.entries.items (record { entries = length l.trail.entries.items; visited = l.from; settled = settled });
}

abbrev pub decreases-loop-from : goal.decreases-loop-from
decreases-loop-from l = length l.trail.positions.items - l.from
