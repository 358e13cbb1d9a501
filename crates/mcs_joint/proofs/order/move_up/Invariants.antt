use Rattle.std.specs.List.Sorted.{IsPermutation}
use Rattle.std.proofs.Common.{◌≡◌, length}
use Rattle.mcs_joint.proofs.order.move_up.Given as goal

abbrev pub invariant-loop-k : goal.invariant-loop-k
invariant-loop-k l = IsPermutation l.initial.tables l.tables × (length l.tables ≡ length l.initial.tables)
