use Rattle.mcs_program.specs.Asked.{listing_left, IsListingFor}
use Rattle.mcs_program.proofs.listing.go_on.Given as goal

abbrev pub invariant-loop-listing : goal.invariant-loop-listing
invariant-loop-listing l = IsListingFor l.placed.program.now l.listing

abbrev pub decreases-loop-listing : goal.decreases-loop-listing
decreases-loop-listing l = listing_left l.placed.program.now l.listing
