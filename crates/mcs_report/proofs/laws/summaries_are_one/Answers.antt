use Rattle.mcs_report.proofs.SolutionLaws.{summary_is_one, stages_of_summary, summary_exists}
use Rattle.mcs_report.proofs.laws.summaries_are_one.Goals as goal

pub returns-clause-one : goal.returns-clause-one
returns-clause-one c = summary_is_one

pub returns-clause-stages : goal.returns-clause-stages
returns-clause-stages c = stages_of_summary

pub returns-clause-some : goal.returns-clause-some
returns-clause-some c = summary_exists
