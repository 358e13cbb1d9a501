use Rattle.mcs_engine.proofs.FindingLemmas.{AreFalseBelow}
use Rattle.mcs_engine.proofs.propagate.open_literal.Given as goal

abbrev pub invariant-loop-literal : goal.invariant-loop-literal
invariant-loop-literal l = AreFalseBelow l.trail.entries.items l.literals l.other l.literal-index
