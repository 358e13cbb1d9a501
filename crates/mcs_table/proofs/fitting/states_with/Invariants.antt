use Rattle.mcs_table.proofs.ProjectionLemmas.{AreProjected}
use Rattle.mcs_table.proofs.fitting.states_with.Given as goal

abbrev pub invariant-loop-state : goal.invariant-loop-state
invariant-loop-state l = AreProjected l.projections l.set l.states l.state-index l.kept.items
