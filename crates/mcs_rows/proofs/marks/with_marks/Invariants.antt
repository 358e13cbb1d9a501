use Rattle.std.proofs.Common.{◌≡◌, ◌%◌, ◌/◌, ◌||◌, ◌&&◌, ℕ, nat_eq}
use Rattle.mcs_sets.specs.Sets.{has}
use Rattle.mcs_base.proofs.SetParts.{AreBelow}
use Rattle.mcs_rows.proofs.MarkLemmas.{is_marked}
use Rattle.mcs_rows.proofs.marks.with_marks.Given as goal

abbrev pub invariant-loop-rule : goal.invariant-loop-rule
invariant-loop-rule l = record {
  marked : (k : ℕ) → (has l.all k || is_marked l.offset l.rule-iterator k) ≡ (has l.fn.marks k || (nat_eq (k % 2) l.fn.offset && has l.fn.rules (k / 2)));
  known : AreBelow 64 l.rule-iterator;
}
