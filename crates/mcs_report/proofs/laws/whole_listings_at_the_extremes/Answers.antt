use Rattle.mcs_report.proofs.SolutionLaws.{consistent_explains_nothing, nothing_to_meet}
use Rattle.mcs_report.proofs.laws.whole_listings_at_the_extremes.Goals as goal

pub returns : goal.returns
returns c = record { consistent = consistent_explains_nothing; without_diagnoses = nothing_to_meet }
