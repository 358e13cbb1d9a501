use Rattle.mcs_crew.specs.Calls.{load_of}
use Rattle.mcs_crew.specs.Loads.{Worked}
use Rattle.mcs_crew.proofs.load.Load.work.Given as goal

abbrev pub invariant-loop-self : goal.invariant-loop-self
invariant-loop-self g l = Worked (load_of l.fn.self) (load_of l.self)

abbrev pub decreases-loop-self : goal.decreases-loop-self
decreases-loop-self g l = l.self.left
