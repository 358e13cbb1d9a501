use Rattle.std.proofs.Common.{◌≡◌, ◌++◌, drop}
use Rattle.mcs_engine.specs.Stores.{IsFrontOf}
use Rattle.mcs_sat.proofs.base.ClauseBase.add_all.Given as goal

abbrev pub invariant-loop-clause : goal.invariant-loop-clause
invariant-loop-clause l = record {
  vars : l.self.vars ≡ l.fn.self.vars;
  front : IsFrontOf l.fn.self.clauses l.self.clauses;
  rest : l.self.clauses ++ drop l.clause-index l.clauses ≡ l.fn.self.clauses ++ l.clauses;
}
