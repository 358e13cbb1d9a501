use Rattle.std.proofs.Common.{◌-◌, ◌≤◌, ℤ, unsigned_abs, length, drop}
use Rattle.mcs_base.specs.Listings.{IsAmong}
use Rattle.mcs_trace.proofs.resolvent.skip_smaller.Given as goal

abbrev pub invariant-loop-index : goal.invariant-loop-index
invariant-loop-index l =
    (l.index ≤ length l.lits) × ((k : ℤ) → l.size ≤ unsigned_abs k → IsAmong k (drop l.start l.lits) → IsAmong k (drop l.index l.lits))

abbrev pub decreases-loop-index : goal.decreases-loop-index
decreases-loop-index l = length l.lits - l.index
