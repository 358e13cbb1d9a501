use Rattle.std.proofs.Common.{◌↔◌, drop}
use Rattle.mcs_trace.specs.Clauses.{IsClause}
use Rattle.mcs_trace.proofs.OrderLemmas.{IsClauseAfter}
use Rattle.mcs_trace.proofs.clause.is_clause.Given as goal

abbrev pub invariant-loop-literal : goal.invariant-loop-literal
invariant-loop-literal l = IsClause l.lits ↔ IsClauseAfter l.last (drop l.literal-index l.lits)
