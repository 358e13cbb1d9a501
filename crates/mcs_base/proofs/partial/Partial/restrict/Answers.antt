use Rattle.std.proofs.Common.{arith}
use Rattle.mcs_base.proofs.PartialLemmas.{restricted-partial}
use Rattle.mcs_base.proofs.partial.Partial.restrict.Goals as goal

pub invariant_of-result : goal.invariant_of-result
invariant_of-result c = grind (arith, restricted-partial (record { mask = c.self.inside.mask; values = c.self.inside.values }) c.args.mask c.self.invariant)
