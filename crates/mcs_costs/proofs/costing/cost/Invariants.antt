use Rattle.std.proofs.Common.{◌≡◌, ◌+◌, ◌*◌, ◌<◌, length}
use Rattle.std.specs.List.{AllByRecursion, sum_by}
use Rattle.mcs_costs.specs.Costs.{cost, mark_weight}
use Rattle.mcs_costs.proofs.costing.cost.Given as goal

abbrev pub invariant-loop-mark : goal.invariant-loop-mark
invariant-loop-mark l = record {
  counted : l.sum + sum_by (mark_weight l.system) l.mark-iterator ≡ cost l.system l.fn.marks;
  known : AllByRecursion (λ k. k < 2 * length l.system.bridges) l.mark-iterator;
}
