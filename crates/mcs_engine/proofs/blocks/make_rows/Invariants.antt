use Rattle.std.proofs.Common.{◌≡◌, ℕ, ◌+◌, ◌-◌, length}
use Rattle.mcs_engine.specs.Lists.{row_at}
use Rattle.mcs_engine.proofs.blocks.make_rows.Given as goal

abbrev pub invariant-loop-alloc : goal.invariant-loop-alloc
invariant-loop-alloc g l = (p : ℕ) → row_at l.rows.items p ≡ row_at l.fn.rows.items p

abbrev pub decreases-loop-alloc : goal.decreases-loop-alloc
decreases-loop-alloc g l = l.number + 1 - length l.rows.items
