use Rattle.mcs_proof_text.proofs.FaultLaws.{no_fault}
use Rattle.mcs_proof_text.proofs.laws.spelled_reports_have_no_fault.Goals as goal

pub returns : goal.returns
returns c = no_fault
