use Rattle.std.proofs.Common.{ℕ, ◌<◌, slice_index_or}
use Rattle.mcs_base.specs.Transversals.{MeetAloneAt}
use Rattle.mcs_transversal.proofs.critical_edges.critical.Given as goal

abbrev pub invariant-loop-index : goal.invariant-loop-index
invariant-loop-index l = (j : ℕ) → j < l.index → ¬ MeetAloneAt (slice_index_or l.edges j 0) l.t l.mark
