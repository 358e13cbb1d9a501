use Rattle.std.proofs.Common.{◌≤◌, drop, map}
use Rattle.mcs_system.specs.Plain.{Atom}
use Rattle.mcs_evidence.specs.Programs.{literals_of_state}
use Rattle.mcs_evidence.specs.Pushing.{AreNamesOf, IsVariablePart, HasConjunction}
use Rattle.mcs_evidence.proofs.PushingLemmas.{IsJoining}
use Rattle.mcs_evidence.proofs.program.push_other.Given as goal

abbrev pub invariant-loop-k : goal.invariant-loop-k
invariant-loop-k l =
    record {
      grows : l.fn.cnf.vars ≤ l.cnf.vars;
      over : AreNamesOf l.atoms (map (λ b. b.now) (drop l.k l.beliefs));
      part : IsVariablePart l.cnf l.all;
      joined : IsJoining (λ gs o. HasConjunction l.atoms gs l.fn.cnf l.cnf o)
          (literals_of_state 0 (map Atom (map (λ b. b.now) l.beliefs)) l.state) (literals_of_state l.k (map Atom (map (λ b. b.now) (drop l.k l.beliefs))) l.state) l.all;
    }
