use Rattle.mcs_import.proofs.CountLemmas.{questions_bounded, questions_grow}
use Rattle.mcs_import.proofs.laws.questions_are_bounded.Goals as goal

pub returns : goal.returns
returns c = record { bounded = questions_bounded; grow = questions_grow }
