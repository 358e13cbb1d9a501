use Rattle.std.proofs.Common.{◌+◌, ◌≤◌, length}
use Rattle.mcs_base.proofs.SetParts.{AreBelow}
use Rattle.mcs_import.proofs.FewestLemmas.{IsTableSoFar}
use Rattle.mcs_import.proofs.fewest.fewest_changes.Given as goal

-- the table of the rules so far
abbrev pub invariant-loop-bit : goal.invariant-loop-bit
invariant-loop-bit l = record {
  table : IsTableSoFar l.fn.rules l.fn.removable l.fn.forcible l.fn.sets l.fn.all l.bit-iterator.count l.bit-iterator.iter l.fewest.items;
  known : AreBelow 64 l.bit-iterator.iter;
  few : l.bit-iterator.count + length l.bit-iterator.iter ≤ 64;
}
