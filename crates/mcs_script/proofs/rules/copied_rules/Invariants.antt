use Rattle.std.proofs.Common.{◌≡◌, map, take}
use Rattle.mcs_system.specs.Seen.{bridge_of}
use Rattle.mcs_script.proofs.rules.copied_rules.Given as goal

abbrev pub invariant-loop-rule : goal.invariant-loop-rule
invariant-loop-rule l = map bridge_of l.copies.items ≡ map bridge_of (take l.rule-index l.rules)
