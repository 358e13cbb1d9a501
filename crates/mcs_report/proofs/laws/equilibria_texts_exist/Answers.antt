use Rattle.mcs_report.proofs.ListingLaws.{texts_exist}
use Rattle.mcs_report.proofs.laws.equilibria_texts_exist.Goals as goal

pub returns : goal.returns
returns c = texts_exist
