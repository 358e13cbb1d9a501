use Rattle.mcs_program.proofs.TightLemmas.{AreBasedAt}
use Rattle.mcs_program.proofs.tight.is_tight.Given as goal

abbrev pub invariant-loop : goal.invariant-loop
invariant-loop l = AreBasedAt l.placed.placing.rules.items l.set
