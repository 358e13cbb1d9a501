use Rattle.std.proofs.Common.{sym, subst}
use Rattle.mcs_sets.specs.Sets.{Within}
use Rattle.mcs_sets.proofs.Lattice.{none_within}
use Rattle.mcs_joint.proofs.first.one_value.Goals.{then-value, else-value}
use Rattle.mcs_joint.proofs.first.one_value.Goals as goal

pub new-requires : goal.new-requires
new-requires c = elim c.if-value.branch [
  | then-value w ↦ subst (λ n. Within n c.one-mask.result) (sym w.values-is) (λ k h. h)
  | else-value w ↦ rw (w.values-is, w.empty-values.ensures) (none_within c.one-mask.result)
]
