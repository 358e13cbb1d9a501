use Rattle.mcs_grammar.proofs.OneFault.{no-fault}
use Rattle.mcs_grammar.proofs.laws.spelled_texts_have_no_fault.Goals as goal

pub returns : goal.returns
returns c = no-fault
