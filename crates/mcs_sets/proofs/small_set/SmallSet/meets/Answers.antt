use Rattle.std.proofs.Common.{arith}
use Rattle.std.proofs.lemmas.Bool.Decides.{nat_tests}
use Rattle.mcs_sets.specs.Sets.{common}
use Rattle.mcs_sets.proofs.SetLemmas.{meets_where_common, common_where_meets}
use Rattle.mcs_sets.proofs.small_set.SmallSet.meets.Goals as goal

pub returns : goal.returns
unfolding common
returns c = rw (← c.self.view_is, ← c.other.view_is) (
  (λ some. meets_where_common _ _ 128 c.self.invariant (grind (arith, nat_tests))),
  (λ meets. let some = common_where_meets _ _ meets in grind (arith, nat_tests)),
)
