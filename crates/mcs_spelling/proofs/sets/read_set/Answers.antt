use Rattle.mcs_spelling.proofs.SetTexts.{set_told}
use Rattle.mcs_spelling.proofs.sets.read_set.Goals as goal

pub returns-clause-spelled : goal.returns-clause-spelled
returns-clause-spelled c = λ tells. set_told c.args.texts.now c.args.allowed c.args.bytes.now c.set_in.result tells c.set_in.ensures
