use Rattle.std.proofs.Common.{take, map}
use Rattle.std.specs.List.{AllZip}
use Rattle.mcs_system.specs.Seen.{rule_of}
use Rattle.mcs_program.specs.Placing.{IsPlacedRule}
use Rattle.mcs_program.proofs.placing.placed_rules.Given as goal

abbrev pub invariant-loop-rule : goal.invariant-loop-rule
invariant-loop-rule l = AllZip (IsPlacedRule l.program.atoms.now) (map rule_of (take l.rule-index l.program.rules.now)) l.placed.items
