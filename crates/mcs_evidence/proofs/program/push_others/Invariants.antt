use Rattle.std.proofs.Common.{◌≡◌, ◌≤◌, drop, map}
use Rattle.mcs_system.specs.Plain.{Atom}
use Rattle.mcs_cnf.specs.ClauseLists.{with_formulas}
use Rattle.mcs_evidence.specs.Programs.{other_formula}
use Rattle.mcs_evidence.proofs.program.push_others.Given as goal

abbrev pub invariant-loop-state : goal.invariant-loop-state
invariant-loop-state l =
    record {
      grows : l.fn.cnf.vars ≤ l.cnf.vars;
      pushed : with_formulas l.atoms l.cnf (map (other_formula (map Atom (map (λ b. b.now) l.beliefs))) (drop l.state-index l.states))
          ≡ with_formulas l.atoms l.fn.cnf (map (other_formula (map Atom (map (λ b. b.now) l.beliefs))) l.states);
    }
