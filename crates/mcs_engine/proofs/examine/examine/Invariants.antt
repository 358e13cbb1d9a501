use Rattle.mcs_engine.proofs.FindingLemmas.{FoundSoFar}
use Rattle.mcs_engine.proofs.examine.examine.Given as goal

abbrev pub invariant-loop-literal : goal.invariant-loop-literal
invariant-loop-literal l = FoundSoFar l.trail.entries.items l.literals l.literal-index l.free
