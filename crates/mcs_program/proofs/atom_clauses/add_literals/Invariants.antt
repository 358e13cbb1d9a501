use Rattle.std.proofs.Common.{◌≡◌, ◌++◌, drop}
use Rattle.mcs_program.specs.Clauses.{literals_of_names}
use Rattle.mcs_evidence.specs.Pushing.{AreNamesOf}
use Rattle.mcs_program.proofs.atom_clauses.add_literals.Given as goal

abbrev pub invariant-loop-name : goal.invariant-loop-name
invariant-loop-name l =
    record {
      over : AreNamesOf l.program.atoms.now (drop l.name-index l.names);
      added : l.literals.items ++ literals_of_names l.program.atoms.now l.sign (drop l.name-index l.names) ≡ l.fn.literals.items ++ literals_of_names l.program.atoms.now l.sign l.names;
    }
