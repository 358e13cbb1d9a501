use Rattle.mcs_report.proofs.SolutionLaws.{whole_is_one, stages_of_whole}
use Rattle.mcs_report.proofs.laws.whole_listings_are_unambiguous.Goals as goal

pub returns : goal.returns
returns c = record { one = whole_is_one; stages = stages_of_whole }
