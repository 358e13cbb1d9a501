use Rattle.mcs_grammar.proofs.OneFault.{one-fault}
use Rattle.mcs_grammar.proofs.laws.texts_have_one_fault.Goals as goal

pub returns : goal.returns
returns c = one-fault
