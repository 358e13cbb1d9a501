use Rattle.std.proofs.Common.{◌≤◌}
use Rattle.mcs_engine.specs.Marking.{AreUnmarked}
use Rattle.mcs_engine.proofs.marks.is_any_marked.Given as goal

abbrev pub invariant-loop-place : goal.invariant-loop-place
invariant-loop-place l = record {
  most : l.place ≤ l.to;
  free : AreUnmarked l.marks l.place l.to;
}

abbrev pub decreases-loop-place : goal.decreases-loop-place
decreases-loop-place l = l.place
