use Rattle.mcs_text.proofs.WriteLaws.{writes_nothing}
use Rattle.mcs_work.proofs.cheapest.print_verdict_before.Goals as goal

pub returns-in-Spent : goal.returns-in-Spent
returns-in-Spent g c = rw c.in-Spent.is c.print_verdict_above.ensures

pub returns-in-Missing : goal.returns-in-Missing
returns-in-Missing g c = rw c.in-Missing.is (writes_nothing _ _)

pub returns-in-Memory : goal.returns-in-Memory
returns-in-Memory g c = rw c.in-Memory.is (writes_nothing _ _)
