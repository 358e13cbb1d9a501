use Rattle.std.proofs.Common.{◌≡◌, ℕ, false, IsTrue}
use Rattle.std.specs.List.{AllByRecursion}
use Rattle.mcs_sets.specs.Sets.{has, single, union}
use Rattle.mcs_transversal.specs.Transversals.{IsCritical}
use Rattle.mcs_transversal.proofs.barred.barred.Given as goal
use Rattle.mcs_base.proofs.SetParts.{AreBelow}

abbrev pub invariant-loop-mark : goal.invariant-loop-mark
invariant-loop-mark l = record {
  below : AreBelow 128 l.mark-iterator;
  in_set : AllByRecursion (λ k. IsTrue (has l.t k)) l.mark-iterator;
  all : (m : ℕ) → IsTrue (has l.all m) → has l.t m ≡ false → ¬ IsCritical l.edges (union l.t (single m));
}
