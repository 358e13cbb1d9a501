use Rattle.std.proofs.Common.{◌≡◌, ◌≤◌, drop, map, length}
use Rattle.mcs_system.specs.Seen.{formula_of}
use Rattle.mcs_cnf.specs.ClauseLists.{with_formulas, clause_list, AreOver}
use Rattle.mcs_cnf.proofs.formulas.clauses.Given as goal

abbrev pub invariant-loop-formula : goal.invariant-loop-formula
invariant-loop-formula l =
    record {
      all : with_formulas l.atoms l.cnf (map formula_of (drop l.formula-index l.formulas)) ≡ clause_list l.atoms (map formula_of l.formulas);
      over : AreOver l.atoms (map formula_of (drop l.formula-index l.formulas));
      room : length l.atoms ≤ l.cnf.vars;
    }
