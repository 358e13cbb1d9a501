use Rattle.mcs_crew.proofs.PartLemmas.{told_anyway}
use Rattle.mcs_crew.proofs.parts.join_answers.Goals as goal

pub returns-clause-journal : goal.returns-clause-journal
returns-clause-journal g c = told_anyway c.answers_with.result c.in_ok-absorb.ensures.journal
