use Rattle.std.proofs.Common.{map, take}
use Rattle.std.specs.List.{AllZip}
use Rattle.mcs_system.specs.Seen.{rule_of}
use Rattle.mcs_grounded.specs.Parts.{IsNormalRule}
use Rattle.mcs_grounded.proofs.normal.normal_rules.Given as goal

abbrev pub invariant-loop-rule : goal.invariant-loop-rule
invariant-loop-rule l = AllZip (IsNormalRule l.atoms) (map rule_of (take l.rule-index l.rules)) l.placed.items
