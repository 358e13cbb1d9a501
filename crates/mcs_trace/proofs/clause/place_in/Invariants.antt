use Rattle.std.proofs.Common.{ℕ, ◌-◌, ◌<◌, ◌≤◌, pos, length, get_or}
use Rattle.mcs_trace.specs.Clauses.{place}
use Rattle.mcs_trace.proofs.clause.place_in.Given as goal

abbrev pub invariant-loop-index : goal.invariant-loop-index
invariant-loop-index l = (l.index ≤ length l.lits) × ((k : ℕ) → k < l.index → place (get_or l.lits k (pos 0)) < place l.fn.literal)

abbrev pub decreases-loop-index : goal.decreases-loop-index
decreases-loop-index l = length l.lits - l.index
