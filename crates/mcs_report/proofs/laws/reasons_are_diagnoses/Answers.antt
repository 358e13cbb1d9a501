use Rattle.mcs_report.proofs.RepairLemmas.{reasons_numbered}
use Rattle.mcs_report.proofs.SolutionLaws.{explanations_have_reasons}
use Rattle.mcs_report.proofs.laws.reasons_are_diagnoses.Goals as goal

pub returns : goal.returns
returns c = record { number = reasons_numbered; each = explanations_have_reasons }
