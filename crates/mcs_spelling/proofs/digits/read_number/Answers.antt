use Rattle.mcs_spelling.proofs.NumberTexts.{number_told}
use Rattle.mcs_spelling.proofs.digits.read_number.Goals as goal

pub returns-clause-spelled : goal.returns-clause-spelled
returns-clause-spelled c = number_told c.args.bytes.now c.number_in.result c.number_in.ensures
