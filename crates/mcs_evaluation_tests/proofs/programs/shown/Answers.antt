use Rattle.mcs_evaluation_tests.proofs.NameLemmas.{own_names}
use Rattle.mcs_evaluation_tests.proofs.programs.shown.Goals as goal

pub answer_sets-requires-clause-beliefs : goal.answer_sets-requires-clause-beliefs
answer_sets-requires-clause-beliefs c = own_names c.args.atoms.now
