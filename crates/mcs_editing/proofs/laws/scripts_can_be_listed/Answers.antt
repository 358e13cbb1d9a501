use Rattle.mcs_editing.proofs.ScriptLemmas.{scripts_can_be_listed}
use Rattle.mcs_editing.proofs.laws.scripts_can_be_listed.Goals as goal

pub returns : goal.returns
returns c = scripts_can_be_listed
