use Rattle.mcs_check.proofs.ProvedListings.{proved_listings_valid}
use Rattle.mcs_check.proofs.laws.proved_listings_are_valid.Goals as goal

pub returns : goal.returns
returns c = proved_listings_valid
