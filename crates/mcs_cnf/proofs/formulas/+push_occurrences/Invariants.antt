use Rattle.mcs_system.specs.Seen.{formula_of}
use Rattle.mcs_cnf.specs.ClauseLists.{taken}
use Rattle.mcs_cnf.proofs.formulas.+push_occurrences.Given as goal

-- the occurrences that are no atoms
abbrev pub decreases-push_occurrences : goal.decreases-push_occurrences
decreases-push_occurrences l = taken 0 (formula_of l.formula.now)
