use Rattle.mcs_existence.proofs.Counts.{counts_exist}
use Rattle.mcs_existence.proofs.questions_are_counted.Goals as goal

pub returns : goal.returns
returns c = counts_exist
