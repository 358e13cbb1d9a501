use Rattle.std.proofs.Common.{arith}
use Rattle.mcs_search.proofs.adding.unwatched.Goals as goal

pub loop-index-init : goal.loop-index-init
loop-index-init c = (omega arith, λ i p l low less. absurd (omega arith))

pub returns-clause-fresh : goal.returns-clause-fresh
returns-clause-fresh c = λ i p l low less. c.loop-index.invariant.1 i p l low (omega arith)
