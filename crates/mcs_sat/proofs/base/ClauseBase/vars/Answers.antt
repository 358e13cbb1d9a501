use Rattle.std.proofs.Common.{subst}
use Rattle.mcs_trace.specs.Clauses.{IsClauseList}
use Rattle.mcs_engine.proofs.StoreLemmas.{base-clauses}
use Rattle.mcs_sat.proofs.base.ClauseBase.vars.Goals as goal

pub returns-clause-kept : goal.returns-clause-kept
returns-clause-kept c = let b = c.self.inside in subst IsClauseList c.self.view_is (base-clauses b.state b.vars c.self.invariant)
