use Rattle.mcs_proof_text.proofs.ListingParts.{listing_parts}
use Rattle.mcs_proof_text.proofs.laws.whole_listings_are_listing_parts.Goals as goal

pub returns : goal.returns
returns c = listing_parts
