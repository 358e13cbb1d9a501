use Rattle.std.proofs.Common.{map, take}
use Rattle.mcs_system.specs.Seen.{rule_of}
use Rattle.mcs_evidence.specs.Programs.{rule_formula}
use Rattle.mcs_meant.specs.Meanings.{AreMeantBy}
use Rattle.mcs_program.proofs.atom_clauses.clauses_of_rules.Given as goal

abbrev pub invariant-loop-rule : goal.invariant-loop-rule
invariant-loop-rule l = AreMeantBy l.program.atoms.now (map rule_formula (map rule_of (take l.rule-index l.program.rules.now))) l.cnf
