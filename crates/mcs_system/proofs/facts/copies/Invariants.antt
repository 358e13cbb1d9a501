use Rattle.std.proofs.Common.{◌≡◌, ◌++◌, map, drop}
use Rattle.mcs_system.specs.Seen.{rule_of}
use Rattle.mcs_system.proofs.facts.copies.Given as goal

abbrev pub invariant-loop-rule : goal.invariant-loop-rule
invariant-loop-rule l = map rule_of l.all.items ++ map rule_of (drop l.rule-index l.rules) ≡ map rule_of l.rules
