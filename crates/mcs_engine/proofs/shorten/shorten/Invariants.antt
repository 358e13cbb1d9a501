use Rattle.std.proofs.Common.{◌≤◌, ◌+◌, length}
use Rattle.mcs_engine.specs.Marking.{AreUnmarked, IsResolvedOn, IsSingleMark}
use Rattle.mcs_engine.proofs.shorten.shorten.Given as goal

abbrev pub invariant-loop-bound : goal.invariant-loop-bound
invariant-loop-bound l = record {
  bound : l.bound ≤ length l.trail.entries.items;
  early : l.bound ≤ l.start;
  resolved : IsResolvedOn l.clauses l.trail.entries.items l.fn.chain.items l.chain.items l.marks.items;
  single : l.start + 1 ≤ length l.trail.entries.items → IsSingleMark l.start l.marks.items;
  past : length l.trail.entries.items ≤ l.start → AreUnmarked l.marks.items l.bound (length l.trail.entries.items);
}

abbrev pub decreases-loop-bound : goal.decreases-loop-bound
decreases-loop-bound l = l.bound
