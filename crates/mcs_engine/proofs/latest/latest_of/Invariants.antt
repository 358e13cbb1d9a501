use Rattle.mcs_engine.proofs.LatestLemmas.{LatestSoFar}
use Rattle.mcs_engine.proofs.latest.latest_of.Given as goal

abbrev pub invariant-loop-literal : goal.invariant-loop-literal
invariant-loop-literal l = LatestSoFar l.trail.entries.items l.literals l.literal-index l.found
