use Rattle.std.proofs.Common.{arith}
use Rattle.std.proofs.lemmas.Grind.{common_steps}
use Rattle.mcs_import.proofs.OrderLemmas.{none_free}
use Rattle.mcs_import.proofs.order.first_free.Goals as goal

pub returns-clause-none : goal.returns-clause-none
returns-clause-none c = none_free c.args.ahead.now c.args.set c.requires.strict c.requires.in_range (λ j less. c.loop-i.invariant j (omega arith))

pub returns-then-not-meets-clause-first : goal.returns-then-not-meets-clause-first
returns-then-not-meets-clause-first c = grind (arith, common_steps)
