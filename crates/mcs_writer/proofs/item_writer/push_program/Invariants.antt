use Rattle.std.proofs.Common.{◌≡◌, ◌++◌, map, drop}
use Rattle.std.specs.List.{flat_map}
use Rattle.mcs_system.specs.Seen.{rule_of}
use Rattle.mcs_writer.specs.Canonical.{program_rule_text, item_line}
use Rattle.mcs_writer.proofs.item_writer.push_program.Given as goal

abbrev pub invariant-loop-rule : goal.invariant-loop-rule
invariant-loop-rule l = l.text ++ flat_map item_line (map program_rule_text (map rule_of (drop l.rule-index l.rules))) ≡ l.fn.text ++ flat_map item_line (map program_rule_text (map rule_of l.rules))
