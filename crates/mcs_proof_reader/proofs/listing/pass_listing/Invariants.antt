use Rattle.std.proofs.Common.{◌≡◌, ℕ, List, length}
use Rattle.mcs_proof_lines.specs.Walks.{after_front}
use Rattle.mcs_proof_reader.specs.Listings.{listing_at}
use Rattle.mcs_proof_reader.proofs.listing.pass_listing.Given as goal

-- the lines so far, and those that are left
abbrev pub invariant-loop-line : goal.invariant-loop-line
invariant-loop-line l = (front : List (List ℕ)) × (after_front front (listing_at l.lines) ≡ listing_at l.fn.lines)

abbrev pub decreases-loop-line : goal.decreases-loop-line
decreases-loop-line l = length l.lines.rest
