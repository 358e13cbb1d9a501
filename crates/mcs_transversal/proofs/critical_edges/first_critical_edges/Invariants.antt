use Rattle.mcs_transversal.proofs.FirstLemmas.{AreNoted}
use Rattle.mcs_transversal.proofs.critical_edges.first_critical_edges.Given as goal

abbrev pub invariant-loop-index : goal.invariant-loop-index
invariant-loop-index l = AreNoted l.edges l.t l.index l.left l.firsts
