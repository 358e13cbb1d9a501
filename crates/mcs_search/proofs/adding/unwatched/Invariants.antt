use Rattle.std.proofs.Common.{◌≤◌}
use Rattle.mcs_engine.specs.Watching.{AreUnwatched}
use Rattle.mcs_search.proofs.adding.unwatched.Given as goal

abbrev pub invariant-loop-index : goal.invariant-loop-index
invariant-loop-index l = (l.place ≤ l.most) × AreUnwatched l.trail.entries.items l.pairs l.from l.index l.place
