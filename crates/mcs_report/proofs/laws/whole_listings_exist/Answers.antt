use Rattle.mcs_report.proofs.SolutionLaws.{whole_exists}
use Rattle.mcs_report.proofs.laws.whole_listings_exist.Goals as goal

pub returns : goal.returns
returns c = whole_exists
