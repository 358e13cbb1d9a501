use Rattle.std.proofs.Common.{◌≤◌, drop}
use Rattle.mcs_evidence.specs.Programs.{atoms_as}
use Rattle.mcs_evidence.specs.Pushing.{AreNamesOf, IsVariablePart, HasDisjunction}
use Rattle.mcs_evidence.proofs.PushingLemmas.{IsJoining}
use Rattle.mcs_evidence.proofs.pushing.push_either.Given as goal

abbrev pub invariant-loop-name : goal.invariant-loop-name
invariant-loop-name l =
    record {
      grows : l.fn.cnf.vars ≤ l.cnf.vars;
      over : AreNamesOf l.atoms (drop l.name-index l.names);
      part : IsVariablePart l.cnf l.any;
      joined : IsJoining (λ gs o. HasDisjunction l.atoms gs l.fn.cnf l.cnf o) (atoms_as l.names) (atoms_as (drop l.name-index l.names)) l.any;
    }
