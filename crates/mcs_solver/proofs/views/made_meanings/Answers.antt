use Rattle.mcs_meant.proofs.MeaningLemmas.{no_clauses}
use Rattle.mcs_solver.proofs.views.made_meanings.Goals as goal

pub keep_meanings-requires-clause-meant : goal.keep_meanings-requires-clause-meant
keep_meanings-requires-clause-meant c = no_clauses c.args.atoms.now c.in_ok-known.known c.in_ok-known.ensures
