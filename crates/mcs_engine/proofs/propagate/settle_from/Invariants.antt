use Rattle.std.proofs.Common.{◌-◌, ◌≤◌, length}
use Rattle.mcs_engine.specs.Extending.{Extends}
use Rattle.mcs_engine.specs.Watching.{AreSettled}
use Rattle.mcs_engine.proofs.propagate.settle_from.Given as goal

abbrev pub invariant-loop-from : goal.invariant-loop-from
invariant-loop-from l = record {
  trail : Extends l.clauses l.level l.initial.trail l.trail;
  bound : l.initial.from ≤ length l.indices → l.from ≤ length l.indices;
  settled : AreSettled l.clauses l.indices l.trail.entries.items l.initial.from l.from;
}

abbrev pub decreases-loop-from : goal.decreases-loop-from
decreases-loop-from l = length l.indices - l.from
