use Rattle.mcs_asking.proofs.AnswerLemmas.{accepted_right}
use Rattle.mcs_asking.proofs.laws.accepted_answers_are_right.Goals as goal

pub returns : goal.returns
returns c = accepted_right
