use Rattle.std.proofs.Common.{◌≡◌, take}
use Rattle.mcs_sets.specs.Orders.{PairBefore}
use Rattle.mcs_base.specs.Listings.{IsAmong, IsListing}
use Rattle.mcs_costs.specs.Costs.{cost}
use Rattle.mcs_costs.proofs.choosing.of_cost.Given as goal

abbrev pub invariant-loop-marks : goal.invariant-loop-marks
invariant-loop-marks l = IsListing (λ p. IsAmong p (take l.marks-index l.pairs) × (l.price ≡ cost l.system p)) PairBefore l.kept.items
