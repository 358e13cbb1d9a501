use Rattle.mcs_system.specs.Seen.{formula_of}
use Rattle.mcs_cnf.specs.ClauseLists.{taken}
use Rattle.mcs_meant.proofs.meant.+push_literal.Given as goal

-- the subformulas that are no atoms
abbrev pub decreases-push_literal : goal.decreases-push_literal
decreases-push_literal l = taken 0 (formula_of l.formula.now)
