use Rattle.std.proofs.Common.{ℕ}
use Rattle.mcs_sets.specs.Sets.{Meets}
use Rattle.mcs_base.specs.Antichains.{HasOneWithin}
use Rattle.mcs_rows.proofs.local.alone_in.Given as goal

abbrev pub invariant-loop-set : goal.invariant-loop-set
invariant-loop-set l = (s : ℕ) → Meets s l.alone → HasOneWithin l.sets s
