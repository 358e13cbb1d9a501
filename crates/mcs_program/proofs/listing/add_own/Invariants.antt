use Rattle.std.proofs.Common.{[], ◌∷◌, ◌++◌, map, take}
use Rattle.mcs_system.specs.Seen.{rule_of}
use Rattle.mcs_evidence.specs.Programs.{rule_formula}
use Rattle.mcs_evidence.specs.Supports.{support_formula}
use Rattle.mcs_meant.specs.Meanings.{AreMeantBy}
use Rattle.mcs_program.proofs.listing.add_own.Given as goal

abbrev pub invariant-loop-atom : goal.invariant-loop-atom
invariant-loop-atom l = AreMeantBy l.program.atoms.now (map rule_formula (map rule_of l.program.rules.now) ++ map (λ n. support_formula (map rule_of l.program.rules.now) (n ∷ [])) (take l.atom-index l.program.atoms.now)) l.known
