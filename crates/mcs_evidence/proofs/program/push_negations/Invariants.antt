use Rattle.std.proofs.Common.{◌≡◌, ◌≤◌, drop}
use Rattle.mcs_cnf.specs.ClauseLists.{with_formulas}
use Rattle.mcs_evidence.specs.Programs.{negated_atoms}
use Rattle.mcs_evidence.specs.Pushing.{AreNamesOf}
use Rattle.mcs_evidence.proofs.program.push_negations.Given as goal

abbrev pub invariant-loop-name : goal.invariant-loop-name
invariant-loop-name l =
    record {
      grows : l.fn.cnf.vars ≤ l.cnf.vars;
      over : AreNamesOf l.atoms (drop l.name-index l.names);
      pushed : with_formulas l.atoms l.cnf (negated_atoms (drop l.name-index l.names)) ≡ with_formulas l.atoms l.fn.cnf (negated_atoms l.names);
    }
