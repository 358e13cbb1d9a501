use Rattle.mcs_trace.proofs.ClashLemmas.{ClashSoFar}
use Rattle.mcs_trace.proofs.resolvent.only_clash.Given as goal

abbrev pub invariant-loop-literal : goal.invariant-loop-literal
invariant-loop-literal l = ClashSoFar l.first l.second l.literal-index l.index l.found
