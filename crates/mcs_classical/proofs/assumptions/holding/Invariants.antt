use Rattle.std.proofs.Common.{take}
use Rattle.mcs_classical.proofs.AssumptionLemmas.{AreSorted}
use Rattle.mcs_classical.proofs.assumptions.holding.Given as goal

abbrev pub invariant-loop-assumption : goal.invariant-loop-assumption
invariant-loop-assumption l = AreSorted l.given.asked.now.atoms.now l.values l.held l.failed (take l.assumption-index l.given.assumptions.now)
