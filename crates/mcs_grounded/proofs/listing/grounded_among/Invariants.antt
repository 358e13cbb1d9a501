use Rattle.std.proofs.Common.{take}
use Rattle.mcs_sets.specs.Orders.{StateBefore}
use Rattle.mcs_base.specs.Listings.{IsAmong, IsListing}
use Rattle.mcs_reduct.specs.Grounded.{IsGroundedState}
use Rattle.mcs_grounded.specs.Parts.{AreAllFound}
use Rattle.mcs_grounded.proofs.listing.grounded_among.Given as goal

abbrev pub invariant-loop-state : goal.invariant-loop-state
invariant-loop-state l = record {
  found : AreAllFound l.system l.found.items;
  grounded : IsListing (λ y. IsAmong y (take l.state-index l.states) × IsGroundedState l.system y) StateBefore l.grounded.items;
}
