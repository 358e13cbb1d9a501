use Rattle.mcs_costs.specs.Costs.{cost}
use Rattle.mcs_elimination.proofs.Pruning.{IsPruned}
use Rattle.mcs_elimination.proofs.cheapest_rows.cheapest_rows.Given as goal

abbrev pub invariant-loop-row : goal.invariant-loop-row
invariant-loop-row l = IsPruned (cost l.system) l.below l.table.rows l.row-index l.kept.items l.run
