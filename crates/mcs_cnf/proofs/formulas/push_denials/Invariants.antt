use Rattle.std.proofs.Common.{◌≡◌, ◌<◌, ◌≤◌}
use Rattle.mcs_system.specs.Seen.{formula_of}
use Rattle.mcs_cnf.specs.Denials.{denials_added}
use Rattle.mcs_cnf.proofs.formulas.push_denials.Given as goal

abbrev pub invariant-loop-rest : goal.invariant-loop-rest
invariant-loop-rest l = record {
  left : denials_added (formula_of l.rest) l.cnf l.number ≡ denials_added (formula_of l.formula) l.initial.cnf l.fn.x;
  positive : 0 < l.number;
  there : l.number ≤ l.cnf.vars;
}
