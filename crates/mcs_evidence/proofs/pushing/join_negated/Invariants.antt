use Rattle.std.proofs.Common.{◌≤◌, ◌++◌, List, drop}
use Rattle.mcs_system.specs.Plain.{Formula}
use Rattle.mcs_trace.specs.Clauses.{ClauseList}
use Rattle.mcs_evidence.specs.Programs.{negated_atoms}
use Rattle.mcs_evidence.specs.Pushing.{AreNamesOf, IsVariablePart, HasConjunction}
use Rattle.mcs_evidence.proofs.PushingLemmas.{IsJoining}
use Rattle.mcs_evidence.proofs.pushing.join_negated.Given as goal

abbrev pub invariant-loop-name : goal.invariant-loop-name
invariant-loop-name l =
    record {
      grows : l.fn.cnf.vars ≤ l.cnf.vars;
      over : AreNamesOf l.atoms (drop l.name-index l.names);
      part : IsVariablePart l.cnf l.all;
      joined : (start : ClauseList) (fs : List Formula) → HasConjunction l.atoms fs start l.fn.cnf l.fn.all
          → IsJoining (λ gs o. HasConjunction l.atoms gs start l.cnf o) (fs ++ negated_atoms l.names) (negated_atoms (drop l.name-index l.names)) l.all;
    }
