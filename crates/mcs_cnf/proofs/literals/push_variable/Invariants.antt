use Rattle.std.proofs.Common.{◌≡◌, ◌+◌, ◌++◌, map, take}
use Rattle.mcs_cnf.specs.ClauseLists.{clause_of}
use Rattle.mcs_cnf.proofs.literals.push_variable.Given as goal

abbrev pub invariant-loop-row : goal.invariant-loop-row
invariant-loop-row l = record {
  vars : l.cnf.vars ≡ l.fn.cnf.vars + 1;
  clauses : l.cnf.clauses ≡ l.fn.cnf.clauses ++ map (λ r. clause_of r.now) (take l.row-index l.rows);
}
