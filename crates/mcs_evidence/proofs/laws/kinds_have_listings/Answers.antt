use Rattle.mcs_evidence.proofs.DefaultListing.{default_theories_listed}
use Rattle.mcs_evidence.proofs.ProgramListings.{program_views_listed}
use Rattle.mcs_evidence.proofs.laws.kinds_have_listings.Goals as goal

pub returns-clause-default_theories : goal.returns-clause-default_theories
returns-clause-default_theories c = default_theories_listed

pub returns-clause-programs : goal.returns-clause-programs
returns-clause-programs c = program_views_listed
