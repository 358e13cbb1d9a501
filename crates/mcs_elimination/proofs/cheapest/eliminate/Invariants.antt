use Rattle.mcs_system.specs.Repairs.{all_marks}
use Rattle.mcs_costs.specs.Costs.{cost}
use Rattle.mcs_elimination.proofs.Leaving.{IsLeftCheapest}
use Rattle.mcs_elimination.proofs.cheapest.eliminate.Given as goal

abbrev pub invariant-loop-k : goal.invariant-loop-k
invariant-loop-k l = IsLeftCheapest (cost l.system) (all_marks l.system) l.below l.level l.tables l.k l.left
