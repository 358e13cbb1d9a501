use Rattle.std.proofs.Common.{arith}
use Rattle.std.specs.Int.{w128}
use Rattle.mcs_sets.proofs.SetLemmas.{least_at_trailing}
use Rattle.mcs_sets.proofs.small_set.SmallSet.first.Goals as goal

pub returns-else-self-eq0-clause-least : goal.returns-else-self-eq0-clause-least
returns-else-self-eq0-clause-least c = rw (← c.self.view_is) (least_at_trailing w128 _ (omega arith) c.self.invariant)
