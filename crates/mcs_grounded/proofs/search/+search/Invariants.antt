use Rattle.std.proofs.Common.{ℕ, take}
use Rattle.mcs_base.specs.Listings.{IsAmong}
use Rattle.mcs_grounded.specs.Parts.{AreAllFound, cones_of}
use Rattle.mcs_grounded.specs.Searches.{IsToldAt, NoneIsGrounded, open_contexts}
use Rattle.mcs_grounded.specs.declared.bounds.Bounds.{Bounds}
use Rattle.mcs_grounded.proofs.search.+search.Given as goal

abbrev pub decreases-search : goal.decreases-search
decreases-search l = open_contexts l.bounds.now

-- with none of the views before, a state is grounded
abbrev pub invariant-loop-view : goal.invariant-loop-view
invariant-loop-view l = record {
  found : AreAllFound l.derivation.system.now l.found;
  none : (places : ℕ) → IsAmong places (take l.view-index l.view-items) → (told : Bounds) × IsToldAt l.bounds l.context places told × NoneIsGrounded l.derivation.system.now l.derivation.state (cones_of l.derivation.cones.now) told;
}
