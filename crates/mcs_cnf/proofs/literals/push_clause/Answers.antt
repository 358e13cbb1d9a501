use Rattle.std.proofs.Common.{sym, subst}
use Rattle.mcs_trace.specs.Clauses.{IsWithin}
use Rattle.mcs_cnf.proofs.ClauseLemmas.{clause_within}
use Rattle.mcs_cnf.proofs.literals.push_clause.Goals as goal

pub push-requires : goal.push-requires
push-requires c = subst (IsWithin c.args.cnf.now.vars) (sym c.in_ok-clause.ensures) (clause_within c.args.cnf.now.vars c.args.lits.now c.requires)
