use Rattle.mcs_transversal.proofs.CriticalLemmas.{critical-with}
use Rattle.mcs_transversal.proofs.critical_edges.with_critical.Goals as goal

pub returns-in-Some : goal.returns-in-Some
returns-in-Some c k = rw c.with.ensures (critical-with _ _ _ _ c.in-Some.ensures.value k)
