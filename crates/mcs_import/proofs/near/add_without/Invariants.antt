use Rattle.std.proofs.Common.{◌↔◌, ℕ}
use Rattle.mcs_sets.specs.Sets.{minus, single, members}
use Rattle.mcs_base.proofs.SetParts.{AreBelow}
use Rattle.mcs_import.proofs.NearLemmas.{IsAdded}
use Rattle.mcs_import.proofs.near.add_without.Given as goal

abbrev pub invariant-loop-rule : goal.invariant-loop-rule
invariant-loop-rule l = record {
  added : (x : ℕ) → IsAdded (λ r. minus l.set (single r)) l.reached l.rule-iterator l.found.items x ↔ IsAdded (λ r. minus l.set (single r)) l.reached (members l.fn.rules) l.fn.found.items x;
  known : AreBelow 64 l.rule-iterator;
}
