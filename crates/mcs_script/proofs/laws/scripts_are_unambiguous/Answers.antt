use Rattle.mcs_script.proofs.OneScript.{one-script}
use Rattle.mcs_script.proofs.laws.scripts_are_unambiguous.Goals as goal

pub returns : goal.returns
returns _ = one-script
