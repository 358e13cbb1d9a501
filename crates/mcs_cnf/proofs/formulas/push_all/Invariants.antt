use Rattle.std.proofs.Common.{◌≡◌, ◌≤◌, [], drop, map, length}
use Rattle.mcs_system.specs.Seen.{formula_of}
use Rattle.mcs_cnf.specs.ClauseLists.{with_formulas, AreOver}
use Rattle.mcs_cnf.proofs.formulas.push_all.Given as goal

abbrev pub invariant-loop-formula : goal.invariant-loop-formula
invariant-loop-formula l = record {
  all : with_formulas l.atoms l.own (map (λ f. formula_of f.now) (drop l.formula-index l.formulas)) ≡ with_formulas l.atoms (record { vars = l.known.vars; clauses = [] }) (map (λ f. formula_of f.now) l.formulas);
  over : AreOver l.atoms (map (λ f. formula_of f.now) (drop l.formula-index l.formulas));
  room : length l.atoms ≤ l.own.vars;
}
