use Rattle.std.proofs.Common.{◌≡◌, ◌≤◌, length, map, take}
use Rattle.mcs_system.specs.Seen.{formula_of}
use Rattle.mcs_cnf.specs.ClauseLists.{with_formulas}
use Rattle.mcs_solver.proofs.views.keep_formulas.Given as goal

-- the clauses of the formulas so far were added
abbrev pub invariant-loop-formula : goal.invariant-loop-formula
invariant-loop-formula l = record {
  so_far : l.known ≡ with_formulas l.atoms l.initial.known (map formula_of (take l.formula-index l.formulas));
  room : length l.atoms ≤ l.known.vars;
}
