use Rattle.mcs_transversal.proofs.BarredLemmas.{AreNarrowed}
use Rattle.mcs_transversal.proofs.barred.common_parts.Given as goal

abbrev pub invariant-loop-edge : goal.invariant-loop-edge
invariant-loop-edge l = AreNarrowed l.edges l.t l.edge-index l.parts
