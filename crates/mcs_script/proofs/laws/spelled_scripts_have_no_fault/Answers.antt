use Rattle.mcs_script.proofs.OneScript.{spelled-script-no-fault}
use Rattle.mcs_script.proofs.laws.spelled_scripts_have_no_fault.Goals as goal

pub returns : goal.returns
returns _ = spelled-script-no-fault
