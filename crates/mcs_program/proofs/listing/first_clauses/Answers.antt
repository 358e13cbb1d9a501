use Rattle.std.proofs.Common.{map, subst, sym}
use Rattle.mcs_system.specs.Seen.{rule_of}
use Rattle.mcs_evidence.specs.Programs.{rule_formula}
use Rattle.mcs_meant.specs.Meanings.{AreMeantBy}
use Rattle.mcs_program.proofs.listing.first_clauses.Goals as goal

pub add_own-requires : goal.add_own-requires
add_own-requires c = subst (AreMeantBy c.args.program.now.atoms.now (map rule_formula (map rule_of c.args.program.now.rules.now))) (sym c.in_ok-known.ensures) c.in_ok-cnf.ensures
