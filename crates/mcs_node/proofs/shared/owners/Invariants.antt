use Rattle.std.proofs.Common.{◌≡◌, length}
use Rattle.std.specs.List.{AllByRecursion}
use Rattle.std.specs.Arc.{arc_value}
use Rattle.mcs_node.proofs.shared.owners.Given as goal

abbrev pub invariant-loop : goal.invariant-loop
invariant-loop g l = record {
  count : length l.owners.items ≡ l.counter;
  same : AllByRecursion (λ owner. arc_value owner ≡ arc_value l.one) l.owners.items;
}
