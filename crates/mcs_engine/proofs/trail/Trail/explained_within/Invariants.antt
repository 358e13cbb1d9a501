use Rattle.std.proofs.Common.{ℕ, ◌<◌, ◌≤◌}
use Rattle.mcs_engine.specs.Trails.{reason_at}
use Rattle.mcs_engine.proofs.trail.Trail.explained_within.Given as goal

abbrev pub invariant-loop-place : goal.invariant-loop-place
invariant-loop-place l = (i : ℕ) → i < l.place → reason_at l.self.entries.items i ≤ l.number
