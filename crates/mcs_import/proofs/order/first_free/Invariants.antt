use Rattle.std.proofs.Common.{ℕ, ◌<◌}
use Rattle.mcs_import.specs.Reach.{IsFree}
use Rattle.mcs_import.proofs.order.first_free.Given as goal

abbrev pub invariant-loop-i : goal.invariant-loop-i
invariant-loop-i l = (j : ℕ) → j < l.i → ¬ IsFree l.ahead l.set j
