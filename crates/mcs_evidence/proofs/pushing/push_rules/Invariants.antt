use Rattle.std.proofs.Common.{◌≡◌, ◌≤◌, drop, map}
use Rattle.mcs_system.specs.Seen.{rule_of}
use Rattle.mcs_cnf.specs.ClauseLists.{with_formulas}
use Rattle.mcs_evidence.specs.Programs.{rule_formula, AreOverRules}
use Rattle.mcs_evidence.proofs.pushing.push_rules.Given as goal

abbrev pub invariant-loop-rule : goal.invariant-loop-rule
invariant-loop-rule l =
    record {
      grows : l.fn.cnf.vars ≤ l.cnf.vars;
      over : AreOverRules l.atoms (map rule_of (drop l.rule-index l.rules));
      pushed : with_formulas l.atoms l.cnf (map rule_formula (map rule_of (drop l.rule-index l.rules))) ≡ with_formulas l.atoms l.fn.cnf (map rule_formula (map rule_of l.rules));
    }
