use Rattle.mcs_sets.specs.Sets.{common}
use Rattle.mcs_import.specs.Near.{IsNear, IsChanged}
use Rattle.mcs_base.proofs.Walks.{IsReached}
use Rattle.mcs_import.proofs.near.near_by_walk.Given as goal

abbrev pub invariant-loop : goal.invariant-loop
invariant-loop l = IsReached (IsNear l.fn.rules l.fn.removable l.fn.forcible l.fn.sets.items) (IsChanged l.fn.removable (common l.fn.forcible l.fn.rules)) l.counter l.reached.items l.front.items
