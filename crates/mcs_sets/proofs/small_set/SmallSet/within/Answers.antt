use Rattle.std.proofs.Common.{arith}
use Rattle.std.proofs.lemmas.Bool.Decides.{nat_tests}
use Rattle.mcs_sets.specs.Sets.{common}
use Rattle.mcs_sets.proofs.SetLemmas.{within_where_common, common_where_within}
use Rattle.mcs_sets.proofs.small_set.SmallSet.within.Goals as goal

pub returns : goal.returns
unfolding common
returns c = rw (← c.self.view_is, ← c.other.view_is) (
  (λ same. within_where_common _ _ (grind (arith, nat_tests))),
  (λ within. let same = common_where_within _ _ within in grind (arith, nat_tests)),
)
