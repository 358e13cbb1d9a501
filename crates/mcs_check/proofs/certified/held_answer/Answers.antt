use Rattle.mcs_check.proofs.CertifiedLemmas.{answer_is_held}
use Rattle.mcs_check.proofs.certified.held_answer.Goals as goal

pub returns-in-Some-clause-held : goal.returns-in-Some-clause-held
returns-in-Some-clause-held c = answer_is_held c.args.active c.args.answers.now c.in-Some.states.now c.in-Some.ensures
