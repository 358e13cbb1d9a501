use Rattle.std.proofs.Common.{◌≡◌, ◌≤◌, drop, map}
use Rattle.mcs_system.specs.Seen.{rule_of}
use Rattle.mcs_cnf.specs.ClauseLists.{with_formulas}
use Rattle.mcs_evidence.specs.Programs.{beside_formula}
use Rattle.mcs_evidence.proofs.program.push_besides.Given as goal

abbrev pub invariant-loop-less : goal.invariant-loop-less
invariant-loop-less l =
    record {
      grows : l.fn.cnf.vars ≤ l.cnf.vars;
      pushed : with_formulas l.atoms l.cnf (map (beside_formula l.atoms (map rule_of l.rules)) (drop l.less-index l.smaller)) ≡ with_formulas l.atoms l.fn.cnf (map (beside_formula l.atoms (map rule_of l.rules)) l.smaller);
    }
