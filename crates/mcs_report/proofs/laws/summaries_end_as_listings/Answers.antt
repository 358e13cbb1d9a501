use Rattle.mcs_report.proofs.SolutionLaws.{summaries_end}
use Rattle.mcs_report.proofs.laws.summaries_end_as_listings.Goals as goal

pub returns : goal.returns
returns c = summaries_end
