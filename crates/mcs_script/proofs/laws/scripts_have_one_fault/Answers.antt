use Rattle.mcs_script.proofs.OneScript.{one-script-fault}
use Rattle.mcs_script.proofs.laws.scripts_have_one_fault.Goals as goal

pub returns : goal.returns
returns _ = one-script-fault
