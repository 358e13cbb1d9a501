use Rattle.std.proofs.Common.{◌≡◌, ◌++◌, drop, map}
use Rattle.mcs_program.specs.Clauses.{other_literals}
use Rattle.mcs_evidence.specs.Pushing.{AreNamesOf}
use Rattle.mcs_program.proofs.atom_clauses.other_literals.Given as goal

abbrev pub invariant-loop-k : goal.invariant-loop-k
invariant-loop-k l =
    record {
      over : AreNamesOf l.program.atoms.now (map (λ b. b.now) (drop l.k l.program.beliefs.now));
      added : l.literals.items ++ other_literals l.program.atoms.now l.k (map (λ b. b.now) (drop l.k l.program.beliefs.now)) l.view ≡ other_literals l.program.atoms.now 0 (map (λ b. b.now) l.program.beliefs.now) l.view;
    }
