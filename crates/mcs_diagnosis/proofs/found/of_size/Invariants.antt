use Rattle.std.proofs.Common.{◌≡◌, take}
use Rattle.mcs_sets.specs.Orders.{PairBefore}
use Rattle.mcs_sets.specs.Sets.{size}
use Rattle.mcs_base.specs.Listings.{IsAmong, IsListing}
use Rattle.mcs_diagnosis.proofs.found.of_size.Given as goal

abbrev pub invariant-loop-marks : goal.invariant-loop-marks
invariant-loop-marks l = IsListing (λ p. IsAmong p (take l.marks-index l.pairs) × (size p ≡ l.level)) PairBefore l.exact.items
