use Rattle.std.proofs.Common.{take, map}
use Rattle.mcs_system.specs.Seen.{rule_of}
use Rattle.mcs_program.proofs.OnceLemmas.{IsTaken}
use Rattle.mcs_program.proofs.once.rules_once.Given as goal

abbrev pub invariant-loop-rule : goal.invariant-loop-rule
invariant-loop-rule l = IsTaken l.program.atoms.now (map rule_of l.program.rules.now) (map rule_of (take l.rule-index l.program.rules.now)) l.seen.keys (map rule_of l.once.items)
