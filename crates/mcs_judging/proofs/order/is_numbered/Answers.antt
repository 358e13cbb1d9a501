use Rattle.std.proofs.Common.{◌<◌, arith}
use Rattle.mcs_base.proofs.Booleans.{false_tells}
use Rattle.mcs_sets.proofs.SetLemmas.{members_below}
use Rattle.mcs_judging.proofs.order.is_numbered.Goals as goal

pub returns-then-number-gt64-clause-exact : goal.returns-then-number-gt64-clause-exact
returns-then-number-gt64-clause-exact c = false_tells (λ (k, is, there). (let low : k < 64 = members_below c.args.set 64 k c.count.ensures.in_range there in omega arith))
