use Rattle.std.proofs.Common.{◌≡◌, ◌-◌, ◌++◌, map}
use Rattle.std.specs.List.{range_with_len}
use Rattle.mcs_system.specs.Seen.{rule_of}
use Rattle.mcs_generator.specs.Generated.{link_rule}
use Rattle.mcs_generator.proofs.knowledge.add_link_rules.Given as goal

abbrev pub invariant-loop-link : goal.invariant-loop-link
invariant-loop-link l = map rule_of l.rules.items ≡ map rule_of l.fn.rules.items ++ map link_rule (range_with_len 2 (l.link - 2))
