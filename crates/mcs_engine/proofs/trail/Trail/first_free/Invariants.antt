use Rattle.mcs_engine.specs.Trails.{AreAssigned}
use Rattle.mcs_engine.proofs.trail.Trail.first_free.Given as goal

abbrev pub invariant-loop-variable : goal.invariant-loop-variable
invariant-loop-variable l = AreAssigned l.self.entries.items l.from l.variable
