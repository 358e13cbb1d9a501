use Rattle.std.proofs.Common.{◌≤◌, ◌⊎◌, length}
use Rattle.mcs_engine.specs.Marking.{AreUnmarked, IsMarkedWithin, IsResolvedOn}
use Rattle.mcs_engine.proofs.analysis.resolve_back.Given as goal

abbrev pub invariant-loop-bound : goal.invariant-loop-bound
invariant-loop-bound l = record {
  bound : l.bound ≤ length l.trail.entries.items;
  resolved : IsResolvedOn l.clauses l.trail.entries.items l.fn.chain.items l.chain.items l.marks.items;
  free : AreUnmarked l.marks.items l.bound (length l.trail.entries.items);
  late : (length l.trail.entries.items ≤ l.start) ⊎ IsMarkedWithin l.marks.items l.start l.bound;
}

abbrev pub decreases-loop-bound : goal.decreases-loop-bound
decreases-loop-bound l = l.bound
