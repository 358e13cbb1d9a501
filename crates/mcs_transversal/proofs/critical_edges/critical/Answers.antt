use Rattle.std.proofs.Common.{arith}
use Rattle.std.proofs.lemmas.Grind.{common_steps}
use Rattle.mcs_transversal.proofs.critical_edges.critical.Goals as goal

pub returns-then-meet_alone_at : goal.returns-then-meet_alone_at
returns-then-meet_alone_at c = grind (arith, common_steps)
