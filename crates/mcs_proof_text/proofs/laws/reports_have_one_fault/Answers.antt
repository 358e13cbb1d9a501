use Rattle.mcs_proof_text.proofs.FaultLaws.{one_fault}
use Rattle.mcs_proof_text.proofs.laws.reports_have_one_fault.Goals as goal

pub returns : goal.returns
returns c = one_fault
