use Rattle.std.proofs.Common.{arith}
use Rattle.mcs_base.proofs.PartialLemmas.{united-partial}
use Rattle.mcs_base.proofs.partial.Partial.union.Goals as goal

pub invariant_of-result : goal.invariant_of-result
invariant_of-result c = grind (arith, c, united-partial)
