use Rattle.std.proofs.Common.{ℕ, ◌⊎◌, ◌↔◌, IsTrue, drop}
use Rattle.mcs_sets.specs.Sets.{has}
use Rattle.mcs_transversal.specs.Transversals.{HasCriticalEdge}
use Rattle.mcs_transversal.proofs.critical_edges.is_critical.Given as goal

abbrev pub invariant-loop-edge : goal.invariant-loop-edge
invariant-loop-edge l = (k : ℕ) → HasCriticalEdge l.edges l.t k ↔ (IsTrue (has l.marks k) ⊎ HasCriticalEdge (drop l.edge-index l.edges) l.t k)
